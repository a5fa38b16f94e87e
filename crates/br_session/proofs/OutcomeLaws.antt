-- What a refused session says.
use Rattle.std.proofs.Common.{◌≡◌, ℕ, ◌^◌, ◌<◌, ◌≤◌, ◌&&◌, ltb, List, [], length, Result, Ok, Err, sym, ap, ◌∙◌, inl, inr, arith}
use Rattle.br_model.specs.Answer.{IsRefusal}
use Rattle.br_model.specs.Name.{SessionKey}
use Rattle.br_model.specs.Session.{ToSave, checked_order, session_records, ArePacked, Place, visits, checked_spans, Written, IsWritten}
use Rattle.br_model.specs.SessionHolds.{IsToSave, WrittenSessionsHold}
use Rattle.br_model.proofs.WrittenBlockLaws.{IsKey}
use Rattle.std.specs.List.{AllByRecursion}
use Rattle.br_model.proofs.AnswerLaws.{chosen, err_is}
use Rattle.br_session.specs.declared.fault.SessionFault.{SessionFault}
use Rattle.br_session.specs.declared.fault.SessionFault.TheVariants.{Memory, TooLarge, BadFileOrder, BadSavedFile, BadRow}
use Rattle.br_session.specs.Fault.{fault_number, cause}
use Rattle.br_session.specs.Order.{are_linked_back}
use Rattle.br_session.specs.Outcome.{IsOutcome, SessionHolds}
use Rattle.br_session.proofs.OrderLaws.{order_is}
use Rattle.br_session.proofs.SpanLaws.{spans_only_42}

only_16 : (files : List ToSave) (n : ℕ) → checked_order files ≡ Err n → n ≡ 16
only_16 files n e = elim (chosen (are_linked_back [] files && ltb (length files) (2 ^ 31)) (Ok files) (Err 16) (Err n) (sym (order_is files) ∙ e)) [
  | inl p ↦ absurd (not_ok p.1)
  | inr p ↦ sym (err_is 16 n p.1)
]
  where
    not_ok : ◌≡◌ {A = Result (List ToSave) ℕ} (Ok files) (Err n) → ⊥
    not_ok h = absurd cc

pub order_refused : (files : List ToSave) (key : SessionKey) (limit : ℕ) (places : List Place) (starts : List (List ℕ × ℕ)) (e : SessionFault)
    → checked_order files ≡ Err (fault_number e) → IsOutcome files key limit (places, starts) (Err e)
order_refused files key limit places starts Memory h = absurd (omega (arith, only_16 files 1 h))
order_refused files key limit places starts TooLarge h = absurd (omega (arith, only_16 files 15 h))
order_refused files key limit places starts BadFileOrder h = h
order_refused files key limit places starts BadSavedFile h = absurd (omega (arith, only_16 files 17 h))
order_refused files key limit places starts BadRow h = absurd (omega (arith, only_16 files 42 h))

pub spans_refused : (files : List ToSave) (key : SessionKey) (limit : ℕ) (places : List Place) (starts : List (List ℕ × ℕ)) (blocks : List (List ℕ)) (e : SessionFault)
    → checked_order files ≡ Ok files → ArePacked limit key (session_records files) blocks → IsRefusal (cause e) (checked_spans starts (visits places blocks))
    → IsOutcome files key limit (places, starts) (Err e)
spans_refused files key limit places starts blocks Memory ordered packed h = ordered
spans_refused files key limit places starts blocks TooLarge ordered packed h = absurd (omega (arith, spans_only_42 starts (visits places blocks) 15 h))
spans_refused files key limit places starts blocks BadFileOrder ordered packed h = absurd (omega (arith, spans_only_42 starts (visits places blocks) 16 h))
spans_refused files key limit places starts blocks BadSavedFile ordered packed h = absurd (omega (arith, spans_only_42 starts (visits places blocks) 17 h))
spans_refused files key limit places starts blocks BadRow ordered packed h = (ordered, record { blocks = blocks; packed = packed; refused = h })

-- the law of written sessions, for a session that was written
pub session_holds : (files : List ToSave) (key : SessionKey) (limit : ℕ) (places : List Place) (starts : List (List ℕ × ℕ)) (written : Written) → WrittenSessionsHold
    → AllByRecursion IsToSave files → checked_order files ≡ Ok files → (places ≡ [] → files ≡ []) → IsKey key → limit ≤ 64512 → IsWritten files key limit places starts written
    → SessionHolds files key places starts written
session_holds files key limit places starts written law can ordered some is to written_is row deleted earlier later after same ready appended extends =
    let id : row.session.id < 2 ^ 32 = omega (arith, is.id_to, ap (λ (k : SessionKey). k.id) same) in
    let time : row.session.time < 2 ^ 32 = omega (arith, is.time_to, ap (λ (k : SessionKey). k.time) same) in
    let here : IsWritten files row.session limit places starts written = rw same written_is in
    law files row limit places starts written deleted earlier later after can ordered some id time to here ready appended extends
