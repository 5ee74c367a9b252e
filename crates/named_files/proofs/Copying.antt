-- Blocks that are read one after another.
use Rattle.std.proofs.Common.{◌≡◌, ◌∙◌, ℕ, ◌+◌, ◌-◌, ◌<◌, List, [], ◌∷◌, ◌++◌, Option, Some, None, ap, sym, refl, arith, append-nil, append_assoc}
use Rattle.std.proofs.lemmas.List.Elements.{All-append, All-nil}
use Rattle.block_buffers.specs.Calls.{KeepsBlocks}
use Rattle.block_buffers.specs.DeviceCalls.{DeviceCall, WasRead}
use Rattle.block_buffers.specs.Disks.{Disk}
use Rattle.block_buffers.specs.ReadPages.{AreReadFrom}
use Rattle.named_files.specs.Trying.{IsRead, OnlyReads}
use Rattle.block_buffers.proofs.ReadPages.{as_many, none_read, one_read}

pub keeps_all : (a : Option Disk) → KeepsBlocks a a
keeps_all None = tt
keeps_all (Some d) = refl

pub keeps_more : (a b c : Option Disk) → KeepsBlocks a b → KeepsBlocks b c → KeepsBlocks a c
keeps_more None b c h k = tt
keeps_more (Some d) None c h k = absurd h
keeps_more (Some d) (Some e) None h k = absurd k
keeps_more (Some d) (Some e) (Some f) h k = k ∙ h

pub no_block : (count : ℕ) (calls : List DeviceCall) → AreReadFrom 0 0 count calls calls
no_block count calls = none_read 0 count calls

pub one_block : (n count count' : ℕ) (page : List ℕ) (a b c : List DeviceCall) → count' ≡ count → AreReadFrom 0 n count a b → c ≡ b ++ WasRead n page ∷ [] → n < count' → AreReadFrom 0 (n + 1) count a c
one_block n count count' page a b c q h e l =
    let less : n ≡ n - 0 = omega arith in
    let more : n + 1 - 0 ≡ n + 1 = omega arith in
    as_many 0 (n + 1 - 0) (n + 1) count a c more (one_read 0 n count count' a b c (omega arith) q (as_many 0 n (n - 0) count a b less h) (page, e, l))

pub no_reads : (calls : List DeviceCall) → OnlyReads calls calls
no_reads calls = record { reads = []; all = All-nil IsRead; appended = sym (append-nil calls) }

pub reads_more : (a b c : List DeviceCall) → OnlyReads a b → OnlyReads b c → OnlyReads a c
reads_more a b c h k = record {
  reads = h.reads ++ k.reads;
  all = All-append IsRead h.reads k.reads h.all k.all;
  appended = k.appended ∙ ap (λ l. l ++ k.reads) h.appended ∙ append_assoc a h.reads k.reads;
}
