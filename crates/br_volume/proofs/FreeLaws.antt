-- What a disk finds and makes where nothing is.
use Rattle.std.proofs.Common.{◌≡◌, ℕ, Option, Some, None, Result, Ok, Err, IfErr, List, refl, ap, ◌∙◌, arith}
use Rattle.br_fs.specs.Tree.{Tree}
use Rattle.br_fs.specs.Calls.{IsFound, IsSteady, IsTaken}
use Rattle.br_fs.specs.declared.kind.Metadata.{Metadata}
use Rattle.br_fs.specs.declared.kind.Kind.{Kind}
use Rattle.br_fs.specs.declared.kind.Kind.TheVariants.{File, Folder, Link, Other}
use Rattle.br_fs.specs.declared.fault.DiskFault.{DiskFault}
use Rattle.br_fs.specs.declared.fault.DiskFault.TheVariants as disk
use Rattle.br_volume.specs.declared.fault.DriveFault.{DriveFault}
use Rattle.br_volume.specs.declared.fault.DriveFault.TheVariants.{Memory, Fault, UnknownVolume}
use Rattle.br_volume.specs.Folder.{FindsNone, IsKnownFree, drive_fault}

-- nothing that is found is where nothing is
found_nowhere : (steady : Option ℕ) (earlier later : Option Tree) (path : List ℕ) (kind : Kind) (n : ℕ) → later ≡ earlier
    → IsFound later path kind n → IsKnownFree steady earlier path → ⊥
found_nowhere steady None later path kind n same found free = free
found_nowhere steady (Some e) later path File n same found free =
    let f : IsFound (Some e) path File n = rw same at found in let none = free.1.0 in let some = f.1 in absurd cc
found_nowhere steady (Some e) later path Folder n same found free =
    let f : IsFound (Some e) path Folder n = rw same at found in let none = free.1.1 in let some = f.1 in absurd cc
found_nowhere steady (Some e) later path Link n same found free =
    let f : IsFound (Some e) path Link n = rw same at found in let none = free.1.1 in let some = f.1 in absurd cc
found_nowhere steady (Some e) later path Other n same found free =
    let f : IsFound (Some e) path Other n = rw same at found in let none = free.1.1 in let some = f.1 in absurd cc

pub nothing_found : (result : Result ℕ DriveFault) (one two : Option ℕ) (earlier later : Option Tree) (path : List ℕ) (kind : Kind) (n : ℕ)
    → later ≡ earlier → IsFound later path kind n → IsKnownFree one earlier path → FindsNone two result
nothing_found result one two earlier later path kind n same found free =
    absurd (found_nowhere one earlier later path kind n same found free)

-- a disk that is steady, and is not interrupted
steady_of : (one : Option ℕ) (told : Option Tree) (path : List ℕ) → IsKnownFree one told path → one ≡ Some 0
steady_of one None path free = absurd free
steady_of one (Some tree) path free = free.0

stays : (A : Type 0) (one two : Option ℕ) → one ≡ Some 0 → IsSteady {A = A} one two (Err disk.NotFound) → two ≡ Some 0
stays A one None is steady = let never : ⊥ = rw is at steady in absurd never
stays A one (Some m) is steady =
    let low : IsSteady {A = A} (Some 0) (Some m) (Err disk.NotFound) = rw is at steady in
    let none : m ≡ 0 = omega (arith, low) in rw none refl

not_interrupted : (A : Type 0) (one two : Option ℕ) → one ≡ Some 0 → IsSteady {A = A} one two (Err disk.Interrupted) → ⊥
not_interrupted A one None is steady = rw is at steady
not_interrupted A one (Some m) is steady =
    let low : IsSteady {A = A} (Some 0) (Some m) (Err disk.Interrupted) = rw is at steady in omega (arith, low)

not_failed : (A : Type 0) (one two : Option ℕ) → one ≡ Some 0 → IsSteady {A = A} one two (Err disk.Failed) → ⊥
not_failed A one None is steady = rw is at steady
not_failed A one (Some m) is steady = rw is at steady

none_by : (A : Type 0) (fault : DiskFault) (one two : Option ℕ) → one ≡ Some 0 → IsSteady {A = A} one two (Err fault)
    → (fault ≡ disk.Exists → one ≡ None) → FindsNone two (Err (drive_fault fault))
none_by A disk.NotFound one two is steady reads = stays A one two is steady
none_by A disk.Exists one two is steady reads = let none = reads refl in absurd cc
none_by A disk.Interrupted one two is steady reads = absurd (not_interrupted A one two is steady)
none_by A disk.Memory one two is steady reads = tt
none_by A disk.Failed one two is steady reads = absurd (not_failed A one two is steady)

pub none_found : (fault : DiskFault) (given : DriveFault) (one two : Option ℕ) (told : Option Tree) (path : List ℕ) → given ≡ drive_fault fault
    → IsSteady {A = Metadata} one two (Err fault) → (◌≡◌ {A = Result Metadata DiskFault} (Err fault) (Err disk.Exists) → one ≡ None) → IsKnownFree one told path
    → FindsNone two (Err given)
none_found fault given one two told path is steady reads free =
    rw is (none_by Metadata fault one two (steady_of one told path free) steady (λ e. reads (ap Err e)))

-- a file that can't be made where nothing is
taken_nowhere : (steady : Option ℕ) (told : Option Tree) (path : List ℕ) → IsKnownFree steady told path → IsTaken told path → ⊥
taken_nowhere steady None path free taken = free
taken_nowhere steady (Some tree) path free taken = taken free.1

memory_by : (A : Type 0) (fault : DiskFault) (one two : Option ℕ) → one ≡ Some 0 → IsSteady {A = A} one two (Err fault)
    → (fault ≡ disk.Exists → ⊥) → (fault ≡ disk.NotFound → one ≡ None) → drive_fault fault ≡ Memory
memory_by A disk.NotFound one two is steady taken makes = let none = makes refl in absurd cc
memory_by A disk.Exists one two is steady taken makes = absurd (taken refl)
memory_by A disk.Interrupted one two is steady taken makes = absurd (not_interrupted A one two is steady)
memory_by A disk.Memory one two is steady taken makes = refl
memory_by A disk.Failed one two is steady taken makes = absurd (not_failed A one two is steady)

pub only_memory : {A : Type 0} (fault : DiskFault) (given : DriveFault) (one two : Option ℕ) (told : Option Tree) (path : List ℕ)
    → given ≡ drive_fault fault → IsSteady {A = A} one two (Err fault) → (◌≡◌ {A = Result A DiskFault} (Err fault) (Err disk.Exists) → IsTaken told path)
    → (◌≡◌ {A = Result A DiskFault} (Err fault) (Err disk.NotFound) → one ≡ None) → IsKnownFree one told path → given ≡ Memory
only_memory {A} fault given one two told path is steady taken makes free =
    is ∙ memory_by A fault one two (steady_of one told path free) steady
    (λ e. taken_nowhere one told path free (taken (ap Err e))) (λ e. makes (ap Err e))

-- what is known free is so after the search
after_search : (one two : Option ℕ) (first second : Option Tree) (path : List ℕ) → second ≡ first → two ≡ Some 0
    → IsKnownFree one first path → IsKnownFree two second path
after_search one two None second path same is free = absurd free
after_search one two (Some tree) second path same is free = rw same (is, free.1)

pub still_free : {A : Type 0} (result : Result A DriveFault) (one two : Option ℕ) (first second : Option Tree) (path : List ℕ) → second ≡ first
    → (IsKnownFree one first path → FindsNone two (Err UnknownVolume))
    → (IsKnownFree two second path → IfErr result (λ fault. fault ≡ Memory)) → IsKnownFree one first path
    → IfErr result (λ fault. fault ≡ Memory)
still_free result one two first second path same search made free =
    made (after_search one two first second path same (search free) free)

pub found_never : {A : Type 0} (result : Result A DriveFault) (one two : Option ℕ) (first : Option Tree) (path : List ℕ) (n : ℕ)
    → (IsKnownFree one first path → FindsNone two (Ok n)) → IsKnownFree one first path → IfErr result (λ fault. fault ≡ Memory)
found_never result one two first path n search free = absurd (search free)

pub other_fault : (fault : DriveFault) (one two : Option ℕ) (first : Option Tree) (path : List ℕ) → (fault ≡ UnknownVolume → ⊥)
    → (IsKnownFree one first path → FindsNone two (Err fault)) → IsKnownFree one first path → fault ≡ Memory
other_fault Memory one two first path other search free = refl
other_fault Fault one two first path other search free = absurd (search free)
other_fault UnknownVolume one two first path other search free = absurd (other refl)
