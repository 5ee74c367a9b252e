-- What a machine has beside memory, as cells.
use Rattle.std.specs.Prelude.{◌≡◌, ◌≤◌, ℕ, List, [], ◌∷◌, ◌++◌, reverse, length, if◌then◌else◌}
use Rattle.std.specs.List.{flat_map}
use Rattle.block_buffers.specs.Entries.{AreBuffers}
use Rattle.block_buffers.specs.declared.entry.Entry.{Entry}
use Rattle.machine.specs.Registers.{halt_numbers, mark, registers_of, wait_numbers, with_registers}
use Rattle.machine.specs.State.{State}
use Rattle.machine_parts.specs.Whole.{Whole}
use Rattle.memory.specs.Bytes.{cell_bytes}
use Rattle.serving.specs.declared.state.Front.{Front}

-- cells, each in two bytes
abbrev pub cells_bytes : List ℕ → List ℕ
cells_bytes cells = flat_map cell_bytes cells

-- a buffer: its slot, 1 and its block or 0 and 0, and 1 if that was updated
abbrev pub entry_cells : Entry → List ℕ
entry_cells e = e.slot ∷ (mark e.block).0 ∷ (mark e.block).1 ∷ (if e.updated then 1 else 0) ∷ []

-- the data stack and the return stack from the bottom, and the buffers by recency
abbrev pub content_cells : Whole → List ℕ
content_cells s = reverse s.values ++ (reverse s.returns ++ flat_map entry_cells s.buffers)

-- ip, what is pending and the depths of both stacks, and then these
unfoldable pub state_cells : Whole → List ℕ
state_cells s =
    (s.ip ∷ (mark s.pending).0 ∷ (mark s.pending).1 ∷ length s.values ∷ length s.returns ∷ []) ++ content_cells s

-- the numbers before the stacks and the buffers
abbrev pub front_of : State → Front
front_of s = record {
  ip = s.parts.ip;
  has_pending = (mark s.parts.pending).0;
  pending = (mark s.parts.pending).1;
  asks = (wait_numbers s.wait).0;
  asked = (wait_numbers s.wait).1;
  token = (wait_numbers s.wait).2;
  halts = (halt_numbers s.halt).0;
  fault = (halt_numbers s.halt).1;
  values = length s.parts.values;
  returns = length s.parts.returns;
  buffers = length s.parts.buffers;
}

abbrev pub front_cells : Front → List ℕ
front_cells f =
    f.ip ∷ f.has_pending ∷ f.pending ∷ f.asks ∷ f.asked ∷ f.token ∷ f.halts ∷ f.fault ∷ f.values ∷ f.returns ∷ f.buffers ∷ []

-- all registers of a machine
unfoldable pub register_cells : State → List ℕ
register_cells s = front_cells (front_of s) ++ content_cells s.parts

-- such as a machine is: its stacks have at most 256 cells, and its buffers are such as buffers are
pub record IsMachine (s : State) : Type 0 where
  pub values : length s.parts.values ≤ 256
  pub returns : length s.parts.returns ≤ 256
  pub buffers : AreBuffers s.parts.buffers

-- a machine with the same memory, the same device and as many buffers
pub record SharesMemory (s t : State) : Type 0 where
  pub same : t ≡ with_registers s (registers_of t)
  pub count : length t.parts.buffers ≡ length s.parts.buffers

-- the machine over the same memory whose registers these bytes are
pub record IsPutBack (s : State) (body : List ℕ) (t : State) : Type 0 where
  pub machine : IsMachine t
  pub shares : SharesMemory s t
  pub registers : body ≡ cells_bytes (register_cells t)
