-- What is printed of the memory that an image is loaded to.
use Rattle.std.proofs.Common.{◌≡◌, ◌≢◌, ◌↔◌, ◌⊎◌, ◌∙◌, ℕ, List, Option, Result, Ok, Err, IsErrOf, Vec, ap, subst, sym, codes}
use Rattle.std.specs.declared.alloc.Global.{Global}
use Rattle.dictionary.specs.Search.{sought}
use Rattle.subcommands.specs.Causes.{IsNoFile, image_cause}
use Rattle.subcommands.specs.Lines.{memory_of, as_line, EndsSeen, EndsViewed, Prints, PrintsOutOfMemory, PrintsRefusal, PrintsSeen, PrintsViewed}
use Rattle.image_loader.specs.Files.{Contents, IsCutShort, IsFollowed, HasBadMagic, HasBadVersion, HasBadBuffers, HasBadSize}
use Rattle.image_loader.specs.declared.fault.ImageFault.{ImageFault}
use Rattle.image_loader.specs.declared.fault.ImageFault.TheVariants as fault
use Rattle.memory.specs.Bytes.{front_put, zeros}
use Rattle.see.specs.Seeing.{IsSeen}
use Rattle.see.specs.View.{viewed}
use Rattle.see.specs.declared.refusal.SeeRefused.{SeeRefused}
use Rattle.see.specs.declared.refusal.SeeRefused.TheVariants.{OutOfMemory}
use Rattle.see.specs.declared.refusal.ViewRefused.{ViewRefused}

-- memory that begins with an image's bytes is the memory that the image is loaded to
pub in_memory : (image file : Contents) (m bytes : List ℕ) → image ≡ file → bytes ≡ image.bytes → m ≡ front_put bytes zeros → m ≡ memory_of file
in_memory image file m bytes same is front = front ∙ ap (λ b. front_put b zeros) (is ∙ ap (λ i. i.bytes) same)

pub seen : (file : Contents) (m name typed : List ℕ) (answer : Result (Vec ℕ Global) SeeRefused) (status : ℕ) (old new : Option (List ℕ))
    → m ≡ memory_of file → typed ≡ name → IsSeen m typed answer → PrintsSeen name answer status old new → EndsSeen file name status old new
seen file m name typed answer status old new same spelled is printed =
    record { answer = answer; is_seen = subst (λ x. IsSeen x name answer) same (subst (λ t. IsSeen m t answer) spelled is); printed = printed }

-- SEE may answer that memory ran out
pub seen_none : (file : Contents) (name : List ℕ) (status : ℕ) (old new : Option (List ℕ)) → PrintsOutOfMemory status old new → EndsSeen file name status old new
seen_none file name status old new printed = record { answer = Err OutOfMemory; is_seen = tt; printed = printed }

-- the text that SEE answered was printed on a line
pub said : (text : Vec ℕ Global) (bytes name : List ℕ) (status : ℕ) (old new : Option (List ℕ)) → bytes ≡ text.items → Prints (as_line bytes) 0 status old new → PrintsSeen name (Ok text) status old new
said text bytes name status old new same printed = subst (λ (b : List ℕ). Prints (as_line b) 0 status old new) same printed

pub told : (file : Contents) (m name typed : List ℕ) (answer : Result ℕ ViewRefused) (status : ℕ) (old new : Option (List ℕ))
    → m ≡ memory_of file → typed ≡ name → answer ≡ viewed m (sought m typed) → PrintsViewed name answer status old new ⊎ PrintsOutOfMemory status old new
    → EndsViewed file name status old new
told file m name typed answer status old new same spelled is printed =
    let all : answer ≡ viewed (memory_of file) (sought (memory_of file) name) =
    is ∙ ap (λ t. viewed m (sought m t)) spelled ∙ ap (λ x. viewed x (sought x name)) same in
    subst (λ r. PrintsViewed name r status old new ⊎ PrintsOutOfMemory status old new) all printed

-- what was answered of bytes that are no image's file
pub answered : {T : Type 0} (r : Result T ImageFault) (bytes : List ℕ) (f : ImageFault)
    → (IsErrOf r fault.Truncated ↔ IsCutShort bytes) → (IsErrOf r fault.TrailingBytes ↔ IsFollowed bytes)
    → (IsErrOf r fault.BadMagic ↔ HasBadMagic bytes) → (IsErrOf r fault.BadVersion ↔ HasBadVersion bytes)
    → (IsErrOf r fault.BadBuffers ↔ HasBadBuffers bytes) → (IsErrOf r fault.BadSize ↔ HasBadSize bytes) → IsNoFile bytes f → r ≡ Err f
answered r bytes fault.Truncated t l m v b s h = t.1 h
answered r bytes fault.TrailingBytes t l m v b s h = l.1 h
answered r bytes fault.BadMagic t l m v b s h = m.1 h
answered r bytes fault.BadVersion t l m v b s h = v.1 h
answered r bytes fault.BadBuffers t l m v b s h = b.1 h
answered r bytes fault.BadSize t l m v b s h = s.1 h
answered r bytes fault.OutOfMemory t l m v b s h = absurd h

pub not_read : {T : Type 0} (x : T) (f : ImageFault) → Ok x ≡ Err f → ⊥
not_read x f e = cc

-- lack of memory is no reason why bytes are no image's file
no_want : (bytes : List ℕ) (f : ImageFault) → IsNoFile bytes f → f ≡ fault.OutOfMemory → ⊥
no_want bytes fault.Truncated h q = cc
no_want bytes fault.TrailingBytes h q = cc
no_want bytes fault.BadMagic h q = cc
no_want bytes fault.BadVersion h q = cc
no_want bytes fault.BadBuffers h q = cc
no_want bytes fault.BadSize h q = cc
no_want bytes fault.OutOfMemory h q = h

pub refused_so : {T : Type 0} (r : Result T ImageFault) (bytes : List ℕ) (found f : ImageFault) (status : ℕ) (old new : Option (List ℕ)) → r ≡ Err found → r ≡ Err f → IsNoFile bytes f
    → (found ≢ fault.OutOfMemory → PrintsRefusal (codes "image") (image_cause found) status old new) → PrintsRefusal (codes "image") (image_cause f) status old new
refused_so r bytes found f status old new is e why printed =
    let same : found ≡ f = cc in
    subst (λ x. PrintsRefusal (codes "image") (image_cause x) status old new) same (printed (λ q. no_want bytes f why (sym same ∙ q)))
