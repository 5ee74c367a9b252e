-- Tests by which a memory is found to be resident.
use Rattle.std.specs.Prelude.{◌≡◌, ◌≤◌, ◌+◌, ◌==◌, ◌&&◌, ◌||◌, ◌++◌, ℕ, suc, List, length, Bool, false, not, nat_le, codes}
use Rattle.std.specs.List.{list_all, list_any, Contains}
use Rattle.memory.specs.declared.controls.Control.TheVariants as ctl
use Rattle.memory.specs.Controls.{number_of}
use Rattle.memory.specs.Bytes.{cell}
use Rattle.memory.specs.declared.system.TheConstants.{STATE, BASE, DP, CONTEXT, CURRENT}
use Rattle.compiling_words.specs.Code.{runtime}
use Rattle.dictionary.specs.declared.code_fields.TheConstants.{COLON}
use Rattle.dictionary.specs.Chain.{chain}
use Rattle.dictionary.specs.Header.{is_immediate, compilation_address}
use Rattle.dictionary.specs.Search.{Sought, Found, head_of, sought_from}
use Rattle.metacompiler.specs.Loop.{Words}
use Rattle.metacompiler.specs.Resident.{end_of_header, Resident}
use Rattle.metacompiler.specs.Orderly.{IsHead}
use Rattle.metacompiler.specs.declared.rows.TheConstants as rows

-- what was found is immediate, and has this primitive
abbrev pub is_keyword_at : List ℕ → (number : ℕ) → Sought → Bool
is_keyword_at m number (Found l) = is_immediate m l && (cell m (compilation_address m l) == number)
is_keyword_at m number _ = false

unfoldable pub has_keyword : List ℕ → (voc : ℕ) → List ℕ → (number : ℕ) → Bool
has_keyword m voc name number = is_keyword_at m number (sought_from m voc name)

-- `:` isn't immediate, and neither is COMPILE, whose primitive runtime cell 19 names
abbrev pub is_colon_at : List ℕ → Sought → Bool
is_colon_at m (Found l) = not (is_immediate m l) && (cell m (compilation_address m l) == rows.COLON)
is_colon_at m _ = false

unfoldable pub has_colon : List ℕ → (voc : ℕ) → Bool
has_colon m voc = is_colon_at m (sought_from m voc (codes ":"))

abbrev pub is_compile_at : List ℕ → Sought → Bool
is_compile_at m (Found l) = not (is_immediate m l) && (compilation_address m l == runtime m (number_of ctl.Compile))
is_compile_at m _ = false

unfoldable pub has_compile : List ℕ → (voc : ℕ) → Bool
has_compile m voc = is_compile_at m (sought_from m voc (codes "COMPILE"))

-- the keywords, as the metacompiler's table has them
abbrev pub has_naming : List ℕ → (voc : ℕ) → Bool
has_naming m voc =
    has_keyword m voc (codes "[']") rows.BRACKET_TICK && (has_keyword m voc (codes "[COMPILE]") rows.BRACKET_COMPILE
    && has_compile m voc)

abbrev pub has_choosing : List ℕ → (voc : ℕ) → Bool
has_choosing m voc =
    has_keyword m voc (codes "IF") rows.IF && (has_keyword m voc (codes "ELSE") rows.ELSE
    && has_keyword m voc (codes "THEN") rows.THEN)

abbrev pub has_repeating : List ℕ → (voc : ℕ) → Bool
has_repeating m voc =
    has_keyword m voc (codes "BEGIN") rows.BEGIN && (has_keyword m voc (codes "UNTIL") rows.UNTIL
    && (has_keyword m voc (codes "AGAIN") rows.AGAIN && (has_keyword m voc (codes "WHILE") rows.WHILE
    && has_keyword m voc (codes "REPEAT") rows.REPEAT)))

abbrev pub has_counting : List ℕ → (voc : ℕ) → Bool
has_counting m voc =
    has_keyword m voc (codes "DO") rows.DO && (has_keyword m voc (codes "LOOP") rows.LOOP
    && has_keyword m voc (codes "+LOOP") rows.PLUS_LOOP)

abbrev pub has_saying : List ℕ → (voc : ℕ) → Bool
has_saying m voc =
    has_keyword m voc (codes ".\"") rows.DOT_QUOTE && (has_keyword m voc (codes "ABORT\"") rows.ABORT_QUOTE
    && (has_keyword m voc (codes "DOES>") rows.DOES && has_keyword m voc (codes ";") rows.SEMICOLON))

-- a vocabulary, and then FORTH, has all words of the resident compiler
unfoldable pub has_keys : List ℕ → (voc : ℕ) → Bool
has_keys m voc =
    has_colon m voc && (has_keyword m voc (codes "(") rows.PAREN && (has_naming m voc && (has_choosing m voc
    && (has_repeating m voc && (has_counting m voc && has_saying m voc)))))

-- the words of a thread after a code field, as INTERPRET's has them
abbrev pub words_at : List ℕ → (word : ℕ) → Words
words_at m word = record {
  interpret = word;
  scan = cell m (word + 2);
  query_dup = cell m (word + 4);
  zero_branch = cell m (word + 6);
  zero_greater = cell m (word + 10);
  execute = cell m (word + 16);
  branch = cell m (word + 18);
  exit = cell m (word + 22);
}

abbrev pub has_jumps : List ℕ → (word : ℕ) → Bool
has_jumps m word =
    (cell m (word + 8) == word + 22) && ((cell m (word + 12) == cell m (word + 6))
    && ((cell m (word + 14) == word + 18) && (cell m (word + 20) == word + 2)))

abbrev pub has_primitives : List ℕ → Words → Bool
has_primitives m ws =
    (cell m ws.scan == rows.INTERPRET) && ((cell m ws.query_dup == rows.QUESTION_DUP)
    && ((cell m ws.zero_branch == number_of ctl.ZeroBranch) && ((cell m ws.zero_greater == rows.ZERO_GREATER)
    && ((cell m ws.execute == rows.EXECUTE)
    && ((cell m ws.branch == number_of ctl.Branch) && (cell m ws.exit == number_of ctl.Exit))))))

unfoldable pub has_thread : List ℕ → (word : ℕ) → Bool
has_thread m word =
    nat_le word 65511 && ((cell m word == COLON) && (has_jumps m word && has_primitives m (words_at m word)))

-- two headers don't overlap
unfoldable pub are_apart : List ℕ → (l k : ℕ) → Bool
are_apart m l k =
    (l == k) || (nat_le (end_of_header m l + 2) k || nat_le (end_of_header m k + 2) l)

unfoldable pub is_apart_from : List ℕ → List ℕ → ℕ → Bool
is_apart_from m hs l = list_all (are_apart m l) hs

-- a header is below HERE, and beside a record
unfoldable pub is_within : List ℕ → ℕ → Bool
is_within m l = nat_le 258 l && nat_le (end_of_header m l) (cell m DP)

unfoldable pub is_beside : List ℕ → (voc l : ℕ) → Bool
is_beside m voc l = nat_le (voc + 12) l || nat_le (end_of_header m l) voc

-- a header of the list has this code field
unfoldable pub has_header : List ℕ → List ℕ → (word : ℕ) → Bool
has_header m hs word = list_any (λ l. compilation_address m l == word) hs

-- all of a list is in another
abbrev pub AllIn : List ℕ → List ℕ → Type 0
AllIn xs ys = (l : ℕ) → Contains xs l → Contains ys l

-- the headers of a chain were added to old so far, from which l comes next, and so many may follow
pub record Walked (m : List ℕ) (head : ℕ) (old new : List ℕ) (l left : ℕ) : Type 0 where
  pub same : new ++ chain m (suc left) l ≡ old ++ chain m 32769 (cell m head)
  pub count : length new + left ≡ length old + 32768

-- a chain is short, and it joined a list of headers
pub record Joined (m : List ℕ) (head : ℕ) (old new : List ℕ) : Type 0 where
  pub kept : AllIn old new
  pub members : AllIn (chain m 32769 (cell m head)) new
  pub short : length (chain m 32769 (cell m head)) ≤ 32768

-- a chain is short, and in a list of headers
pub record ChainIn (m : List ℕ) (head : ℕ) (hs : List ℕ) : Type 0 where
  pub members : AllIn (chain m 32769 (cell m head)) hs
  pub short : length (chain m 32769 (cell m head)) ≤ 32768

-- the four chains of a vocabulary joined the list
pub record JoinedAll (m : List ℕ) (voc : ℕ) (old new : List ℕ) : Type 0 where
  pub kept : AllIn old new
  pub chains : (x : List ℕ) → ChainIn m (head_of voc x) new

-- a list has the chains of CURRENT's vocabulary, of CONTEXT's and of FORTH
abbrev pub HasChains : List ℕ → List ℕ → Type 0
HasChains m hs = (h : ℕ) → IsHead (cell m CURRENT) (cell m CONTEXT) h → ChainIn m h hs

-- INTERPRET and the words of its thread have headers in the list
abbrev pub has_words : List ℕ → List ℕ → Words → Bool
has_words m hs ws =
    has_header m hs ws.interpret && (has_header m hs ws.scan && (has_header m hs ws.query_dup
    && (has_header m hs ws.zero_branch && (has_header m hs ws.zero_greater && (has_header m hs ws.execute
    && (has_header m hs ws.branch && has_header m hs ws.exit))))))

-- words are executed, in base ten, and HERE is where it may be
unfoldable pub is_idle : List ℕ → (limit : ℕ) → Bool
is_idle m limit =
    (cell m STATE == 0) && ((cell m BASE == 10) && (nat_le (cell m DP) limit && nat_le 256 (cell m DP)))

-- records and the thread are below HERE, beside one another
abbrev pub is_record : List ℕ → (voc : ℕ) → Bool
is_record m voc = (voc == 42) || (nat_le 256 voc && nat_le (voc + 10) (cell m DP))

abbrev pub are_records_apart : (voc other : ℕ) → Bool
are_records_apart voc other = (voc == other) || (nat_le (voc + 10) other || nat_le (other + 10) voc)

abbrev pub is_thread_beside : (voc word : ℕ) → Bool
is_thread_beside voc word = nat_le (voc + 10) (word + 2) || nat_le (word + 24) voc

unfoldable pub are_placed : List ℕ → (cur ctx word : ℕ) → Bool
are_placed m cur ctx word =
    is_record m cur && (is_record m ctx && (are_records_apart cur ctx && (nat_le 254 word
    && (nat_le (word + 24) (cell m DP) && (is_thread_beside cur word && is_thread_beside ctx word)))))

-- all tests but those of chains
abbrev pub passes : List ℕ → (limit word : ℕ) → List ℕ → Bool
passes m limit word hs =
    has_thread m word && (has_keys m (cell m CONTEXT) && (has_keys m (cell m CURRENT)
    && (has_words m hs (words_at m word) && (is_idle m limit && (list_all (is_within m) hs
    && (list_all (is_apart_from m hs) hs && (are_placed m (cell m CURRENT) (cell m CONTEXT) word
    && (list_all (is_beside m (cell m CURRENT)) hs && list_all (is_beside m (cell m CONTEXT)) hs))))))))

-- a memory is resident, with INTERPRET's thread somewhere
abbrev pub IsResident : (limit : ℕ) → List ℕ → Type 0
IsResident limit m = (ws : Words) × (a : ℕ) × Resident limit ws a m
