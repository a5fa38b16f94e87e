use Rattle.std.proofs.Common.{◌≡◌, ℕ, ◌<◌, List, [], ◌∷◌, ◌++◌, length, take, rules, refl, sym, ap, subst, ◌∙◌, arith, w32}
use Rattle.std.proofs.lemmas.Bool.{eqb-true}
use Rattle.std.proofs.lemmas.Int.{to_z_pos}
use Rattle.std.proofs.lemmas.List.{append-nil, nil_from_length, take-append-drop}
use Rattle.br_model.specs.Block.{Fragment}
use Rattle.br_model.specs.Record.{Record, IsCut}
use Rattle.br_session.proofs.PackingLaws.{begins, continues, negated}
use Rattle.br_session.proofs.packing.Packer.add.Goals as goal

pub loop-left-init : goal.loop-left-init
loop-left-init c =
    let put = c.in_ok-taken.ensures in
    let bytes = c.args.bytes.now in
    let taken = c.in_ok-taken.taken in
    let after = c.split_at.result.1.now in
    let back = c.split_at.ensures.back in
    let r : Record = record { index = c.args.index; stream = c.args.stream; bytes = bytes } in
    let joined : bytes ≡ take taken bytes ++ after = sym (take-append-drop taken bytes) ∙ ap (λ (x : List ℕ). take taken bytes ++ x) (sym back) in
    let stream = to_z_pos w32 c.args.stream c.requires.stream_to in (
      omega (arith, c.split_at.ensures.back_len),
      λ lt. put.full (omega (arith, c.split_at.ensures.back_len)),
      put.session,
      put.limit,
      λ records packs. record {
        fragments = packs.fragments ++ _ ∷ [];
        has_put = put.follows packs.fragments packs.has_put;
        goes_on = λ more go. begins records r packs.fragments more _ after packs.cut refl stream refl joined c.requires.stream_from go;
      },
    )

pub loop-left-preserved : goal.loop-left-preserved
loop-left-preserved c =
    let put = c.in_ok-taken-2.ensures in
    let left = c.loop-left.left.now in
    let taken = c.in_ok-taken-2.taken in
    let after = c.split_at-in-loop-left.result.1.now in
    let back = c.split_at-in-loop-left.ensures.back in
    let was = c.loop-left.invariant in
    let r : Record = record { index = c.args.index; stream = c.args.stream; bytes = c.args.bytes.now } in
    let joined : left ≡ take taken left ++ after = sym (take-append-drop taken left) ∙ ap (λ (x : List ℕ). take taken left ++ x) (sym back) in
    let some : 0 < length left = search rules in
    let stream = negated c.args.stream c.requires.stream_to in (
      omega (arith, c.split_at-in-loop-left.ensures.back_len, was.0),
      λ lt. put.full (omega (arith, c.split_at-in-loop-left.ensures.back_len)),
      put.session ∙ was.2,
      put.limit ∙ was.3,
      λ records packs.
          let under = was.4 records packs in
          record {
            fragments = under.fragments ++ _ ∷ [];
            has_put = put.follows under.fragments under.has_put;
            goes_on = λ more go. continues (records ++ r ∷ []) r under.fragments more _ left after under.goes_on refl stream refl some joined go;
          },
    )

pub returns-clause-packs : goal.returns-clause-packs
returns-clause-packs c =
    let r : Record = record { index = c.args.index; stream = c.args.stream; bytes = c.args.bytes.now } in
    let none : c.loop-left.left.now ≡ [] = nil_from_length c.loop-left.left.now (eqb-true (length c.loop-left.left.now) 0 (sym c.loop-left-test.ensures)) in
    λ records packs.
    let under = c.loop-left.invariant.4 records packs in
    record {
      fragments = under.fragments;
      has_put = under.has_put;
      cut = subst (λ (x : List Fragment). IsCut (records ++ r ∷ []) x) (append-nil under.fragments) (under.goes_on [] none);
    }
