-- INTERPRET and its thread: BEGIN (INTERPRET) ?DUP WHILE 0> IF EXECUTE THEN REPEAT ;
use Rattle.std.specs.Prelude.{◌≡◌, ◌<◌, ◌+◌, ℕ, List}
use Rattle.memory.specs.Bytes.{cell}
use Rattle.memory.specs.Controls.{number_of}
use Rattle.memory.specs.declared.controls.Control.TheVariants as ctl
use Rattle.dictionary.specs.declared.code_fields.TheConstants.{COLON}
use Rattle.metacompiler.specs.declared.rows.TheConstants as rows

-- the compilation addresses of INTERPRET and of the words of its thread, of which `scan` is (INTERPRET)
pub record Words : Type 0 where
  pub interpret : ℕ
  pub scan : ℕ
  pub query_dup : ℕ
  pub zero_branch : ℕ
  pub zero_greater : ℕ
  pub execute : ℕ
  pub branch : ℕ
  pub exit : ℕ

-- INTERPRET is a colon word, its thread is at a, and its words are these primitives
pub record Thread (ws : Words) (m : List ℕ) (a : ℕ) : Type 0 where
  pub within : a + 22 < 65536
  pub place : a ≡ ws.interpret + 2
  pub entry : cell m ws.interpret ≡ COLON
  pub c0 : cell m a ≡ ws.scan
  pub c2 : cell m (a + 2) ≡ ws.query_dup
  pub c4 : cell m (a + 4) ≡ ws.zero_branch
  pub c6 : cell m (a + 6) ≡ a + 20
  pub c8 : cell m (a + 8) ≡ ws.zero_greater
  pub c10 : cell m (a + 10) ≡ ws.zero_branch
  pub c12 : cell m (a + 12) ≡ a + 16
  pub c14 : cell m (a + 14) ≡ ws.execute
  pub c16 : cell m (a + 16) ≡ ws.branch
  pub c18 : cell m (a + 18) ≡ a
  pub c20 : cell m (a + 20) ≡ ws.exit
  pub r0 : cell m ws.scan ≡ rows.INTERPRET
  pub r2 : cell m ws.query_dup ≡ rows.QUESTION_DUP
  pub r4 : cell m ws.zero_branch ≡ number_of ctl.ZeroBranch
  pub r8 : cell m ws.zero_greater ≡ rows.ZERO_GREATER
  pub r14 : cell m ws.execute ≡ rows.EXECUTE
  pub r16 : cell m ws.branch ≡ number_of ctl.Branch
  pub r20 : cell m ws.exit ≡ number_of ctl.Exit
