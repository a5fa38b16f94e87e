-- How callers see a session or a snapshot.
use Rattle.std.specs.Prelude.{◌≡◌, ◌≤◌, List, All, length}
use mathlib.Core.List.{IsPrefix}
use Rattle.logbook.specs.Pages.{Book}
use Rattle.br_model.specs.Job.{JobRows}
use Rattle.br_keeper.specs.Beginnings.{Beginning}

-- the list that it reads, the jobs before that list, and the beginning of the list that it knows to
-- be published
pub record Known : Type 0 where
  pub book : Book
  pub opening : List JobRows
  pub list : List JobRows

-- the same list and the same jobs before it
abbrev pub IsSame : Known → Known → Type 0
IsSame a b = (b.book ≡ a.book) × (b.opening ≡ a.opening)

-- the second view is of the same list, and is as long as the first or longer
abbrev pub Extends : Known → Known → Type 0
Extends a b = IsSame a b × IsPrefix a.list b.list

abbrev pub known : Book → List JobRows → List JobRows → Known
known book opening list = record { book = book; opening = opening; list = list }

-- each of the sessions knows this
abbrev pub AllKnow : Book → List JobRows → List JobRows → List Known → Type 0
AllKnow book opening list sessions = All (λ (s : Known). s ≡ known book opening list) sessions

-- what goes on from a session that has learned a receipt has at least as many jobs as the receipt
-- counts
abbrev pub ReceiptsAreShown : Type 0
ReceiptsAreShown =
    (receipt : Beginning) (learned shown : Known) → IsPrefix receipt.log learned.list → Extends learned shown
    → length receipt.log ≤ length shown.list
