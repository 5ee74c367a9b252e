-- An instruction off the front, as the decompiler takes it.
use Rattle.std.specs.Prelude.{ℕ, List, Option, Some, None}
use Rattle.std.specs.Borrow.{Bor}
use Rattle.see.specs.declared.front.Instruction.{Instruction}
use Rattle.see.specs.declared.front.Instruction.TheVariants as i
use Rattle.see.specs.declared.front.Taken.{Taken}
use Rattle.colon_bodies.specs.Instructions.{Instr, ICall, INum, ICompile, IText, IQuery, IBranch, IDo, ILoop, IDoes}
use Rattle.colon_bodies.specs.Found.{Front, Off, First, Peeled, Short, Peel}

-- an instruction without where its text is in memory
abbrev pub instr : Instruction → Instr
instr (i.Call w) = ICall w
instr (i.Number n) = INum n
instr (i.Pair w) = ICompile w
instr (i.Text k t) = IText k t.now
instr (i.Query to) = IQuery to
instr (i.Branch to) = IBranch to
instr (i.Do to) = IDo to
instr (i.Loop k to) = ILoop k to
instr i.Does = IDoes

abbrev pub front : Option Taken → Front
front None = Off
front (Some t) = First (instr t.first) t.rest.now

abbrev pub peeled : Option (ℕ × Bor (List ℕ)) → Peeled
peeled None = Short
peeled (Some p) = Peel p.0 p.1.now
