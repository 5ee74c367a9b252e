-- A colon definition as one header with its code after it.
use Rattle.std.specs.Prelude.{◌≡◌, ◌≢◌, ◌≤◌, ◌<◌, ◌⊎◌, ◌/◌, ℕ, false, ◌+◌, List, length}
use Rattle.memory.specs.Bytes.{byte, cell}
use Rattle.memory.specs.declared.limit.TheConstants.{GREATEST_LIMIT}
use Rattle.memory.specs.declared.system.TheConstants.{STATE, DP, CURRENT}
use Rattle.dictionary.specs.declared.site.Site.{Site}
use Rattle.dictionary.specs.Search.{head_of}
use Rattle.dictionary.specs.Adding.{with_header_at}
use Rattle.compiling_words.specs.Code.{runtime}
use Rattle.compiling_words.specs.Definitions.{begun, ended}
use Rattle.colon_bodies.specs.Tree.{Definition, all_words}
use Rattle.colon_bodies.specs.Code.{whole_code}
use Rattle.image_builder.specs.Places.{Place}
use Rattle.image_builder.specs.Items.{Items, Then, Colon}
use Rattle.image_builder.specs.Grammar.{IsLimit, AreSound}
use Rattle.image_builder.specs.Headers.{memory_of}
use Rattle.resident_bodies.specs.Words.{lays_all}

-- where a definition of this name goes in a memory: at HERE, in front of its chain in CURRENT
abbrev pub site_in : List ℕ → (view : ℕ) → List ℕ → Site
site_in m view name = record {
  here = cell m DP;
  view = view;
  link = cell m (head_of (cell m CURRENT) name);
  head = head_of (cell m CURRENT) name;
}

-- memory with a whole definition: one header, and after its code field the thread
abbrev pub laid_definition : List ℕ → (view : ℕ) → List ℕ → Definition → List ℕ
laid_definition m view name body =
    with_header_at (site_in m view name) m name 1 (whole_code (runtime m) body (cell m DP + (7 + length name))) false

-- memory after `: NAME`, the body's words one after another, and `;`
abbrev pub laid_by_words : (m d name : List ℕ) → Definition → List ℕ
laid_by_words m d name body = ended (lays_all (all_words body) (begun m name) d).0

-- each list of items that is sound where the block buffers begin at a limit
abbrev pub OfSound : ((limit : ℕ) → Items → Type 0) → Type 0
OfSound P = (limit : ℕ) → IsLimit limit → (t : Items) → AreSound limit t → P limit t

-- the last of these items is a colon definition, after t
abbrev pub EndsInColon : Items → (t : Items) → (name : Place) → Definition → Type 0
EndsInColon u t name body = (words : List Place) × (u ≡ Then t words (Colon name body))

-- the image's memory of these items, with a definition after them whose name is at this place of the source
abbrev pub with_definition : Items → (name : Place) → Definition → List ℕ
with_definition t name body = laid_definition (memory_of t) name.screen name.name body

-- A definition of this name may begin: words are executed, its header and so many bytes after it fit, and the head of its
-- chain is one of FORTH's or is among what was written.
pub record Opens (m name : List ℕ) (behind : ℕ) : Type 0 where
  pub all : length m ≡ 65536
  pub executing : cell m STATE ≡ 0
  pub short : length name ≤ 31
  pub low : 256 ≤ cell m DP
  pub high : cell m DP + (7 + length name + behind) ≤ GREATEST_LIMIT
  pub head : ((42 ≤ head_of (cell m CURRENT) name) × (head_of (cell m CURRENT) name + 1 < 52)) ⊎ ((256 ≤ head_of (cell m CURRENT) name) × (head_of (cell m CURRENT) name + 1 < cell m DP))

-- memories agree up to HERE, except >IN and BLK (20 to 23) and CONTEXT (32 and 33)
pub record Agrees (m n : List ℕ) : Type 0 where
  pub here : cell m DP ≡ cell n DP
  pub same : (i : ℕ) → i < cell n DP → i / 4 ≢ 5 → i / 2 ≢ 14 → i / 2 ≢ 16 → byte m i ≡ byte n i
