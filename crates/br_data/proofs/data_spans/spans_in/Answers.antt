use Rattle.std.proofs.Common.{◌≡◌, ◌++◌, ◌∷◌, [], List, length, rules, ap, sym, subst, ◌∙◌, append_assoc, arith}
use Rattle.std.proofs.lemmas.List.{append-nil}
use Rattle.br_model.specs.Block.{Fragment, fragments_of}
use Rattle.br_data.specs.DataSpans.{AreDataIn}
use Rattle.br_data.proofs.SpanLaws.{SpansTo, next_fits, spans_begin, spans_on}
use Rattle.br_data.proofs.data_spans.spans_in.Goals as goal

pub loop-fragment-init : goal.loop-fragment-init
loop-fragment-init c =
    let block = c.args.block.now in
    let end = c.header_len-end.result in
    let read : c.fragments-fragment-items.result ≡ fragments_of block = c.fragments-fragment-items.ensures.read in
    let all : c.into_iter-fragment-iterator.result ≡ fragments_of block = search rules in
    let begin = spans_begin block c.fragments-fragment-items.result end c.fragments-fragment-items.ensures.exact c.header_len-end.ensures.same c.header_len-end.ensures.within in
    (rw c.new-spans.ensures.items (subst (λ (fs : List Fragment). SpansTo block [] fs end []) (read ∙ sym all) begin), all)

pub next_span-span-requires : goal.next_span-span-requires
next_span-span-requires c =
    let l = c.loop-fragment in
    let to = subst (λ (fs : List Fragment). SpansTo c.args.block.now l.yielded fs l.end l.spans.items) c.in-Some.ensures.steps l.invariant.0 in
    let fits = next_fits c.args.block.now l.yielded c.next.new.self l.end l.spans.items c.in-Some.fragment to in
    omega (arith, fits, c.record_header_len-header.ensures, c.fragments-fragment-items.ensures.most, ap length (ap (λ (g : Fragment). g.bytes) c.fragment.view_is))

pub end_of-end-requires : goal.end_of-end-requires
end_of-end-requires c =
    let l = c.loop-fragment in
    let to = subst (λ (fs : List Fragment). SpansTo c.args.block.now l.yielded fs l.end l.spans.items) c.in-Some.ensures.steps l.invariant.0 in
    let fits = next_fits c.args.block.now l.yielded c.next.new.self l.end l.spans.items c.in-Some.fragment to in
    omega (
      arith,
      fits,
      c.record_header_len-header.ensures,
      c.fragments-fragment-items.ensures.most,
      c.next_span-span.ensures.start,
      c.next_span-span.ensures.len,
      ap length (ap (λ (g : Fragment). g.bytes) c.fragment.view_is),
    )

pub loop-fragment-preserved : goal.loop-fragment-preserved
loop-fragment-preserved c =
    let l = c.loop-fragment in
    let f = c.in-Some.fragment in
    let to = subst (λ (fs : List Fragment). SpansTo c.args.block.now l.yielded fs l.end l.spans.items) c.in-Some.ensures.steps l.invariant.0 in
    let span = c.next_span-span.result in (
      rw (c.in_ok-push.ensures.items) (rw (c.end_of-end.ensures)
          (spans_on c.args.block.now l.yielded c.next.new.self l.end c.record_header_len-header.result l.spans.items f span to c.record_header_len-header.ensures c.next_span-span.ensures.start
          (c.next_span-span.ensures.len ∙ ap length (ap (λ (g : Fragment). g.bytes) c.fragment.view_is)))),
      append_assoc l.yielded (f ∷ []) c.next.new.self ∙ ap (λ (fs : List Fragment). l.yielded ++ fs) (sym c.in-Some.ensures.steps) ∙ l.invariant.1,
    )

pub returns : goal.returns
returns c =
    let l = c.loop-fragment in
    let all = sym (append-nil l.yielded) ∙ ap (λ (fs : List Fragment). l.yielded ++ fs) (sym c.in-None.ensures.steps.0) ∙ l.invariant.1 in
    subst (AreDataIn c.args.block.now l.spans.items) all l.invariant.0.so_far
