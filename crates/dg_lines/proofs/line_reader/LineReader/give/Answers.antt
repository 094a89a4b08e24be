use Rattle.std.proofs.Common.{◌≡◌, ◌≤◌, ◌+◌, List, ℕ, length, sym, ap, subst, arith, Some, refl}
use Rattle.std.specs.Prelude.{slice_range}
use Rattle.std.specs.Str.Lines.{strip_carriage_return}
use Rattle.dg_lines.specs.LineReading.{Reading, EndsAt, most_kept}
use Rattle.dg_lines.proofs.ReaderLemmas.{at_inside, gives, is_long}
use Rattle.dg_lines.proofs.line_reader.LineReader.give.Goals as goal

pub overflow_add-self-2 : goal.overflow_add-self-2
overflow_add-self-2 c =
    let r = c.self.inside in
    let i = c.self.invariant in
    let told : slice_range r.buffer.items r.from c.text_end-text_to.result ≡ strip_carriage_return (slice_range r.buffer.items r.from (r.from + c.args.at)) =
    subst (λ (xs : List ℕ). slice_range xs r.from c.text_end-text_to.result ≡ strip_carriage_return (slice_range xs r.from (r.from + c.args.at))) c.deref.ensures.value c.text_end-text_to.ensures.text in
    let whole : length r.buffer.items ≤ most_kept = i.0 in
    let ends : EndsAt (Some c.args.at) (slice_range r.buffer.items r.from r.to) = subst (EndsAt (Some c.args.at)) (sym (ap (λ (v : Reading). v.ahead) c.self.view_is)) c.requires in
    let inside = at_inside r.buffer.items r.from r.to c.args.at r.taken r.number r.text_from r.text_to c.text_end-text_to.result whole i.1 i.2 i.3 i.4 ends told in
    omega (arith, inside, i.2)

pub invariant_of-self : goal.invariant_of-self
invariant_of-self c =
    let r = c.self.inside in
    let i = c.self.invariant in
    let told : slice_range r.buffer.items r.from c.text_end-text_to.result ≡ strip_carriage_return (slice_range r.buffer.items r.from (r.from + c.args.at)) =
    subst (λ (xs : List ℕ). slice_range xs r.from c.text_end-text_to.result ≡ strip_carriage_return (slice_range xs r.from (r.from + c.args.at))) c.deref.ensures.value c.text_end-text_to.ensures.text in
    let whole : length r.buffer.items ≤ most_kept = i.0 in
    let ends : EndsAt (Some c.args.at) (slice_range r.buffer.items r.from r.to) = subst (EndsAt (Some c.args.at)) (sym (ap (λ (v : Reading). v.ahead) c.self.view_is)) c.requires in
    let inside = at_inside r.buffer.items r.from r.to c.args.at r.taken r.number r.text_from r.text_to c.text_end-text_to.result whole i.1 i.2 i.3 i.4 ends told in
    (i.0, inside, i.2, omega (arith, inside, i.3), i.4, c.text_end-text_to.ensures.start, omega (arith, inside, i.2, c.text_end-text_to.ensures.end), i.7)

pub returns : goal.returns
returns c =
    let r = c.self.inside in
    let i = c.self.invariant in
    let told : slice_range r.buffer.items r.from c.text_end-text_to.result ≡ strip_carriage_return (slice_range r.buffer.items r.from (r.from + c.args.at)) =
    subst (λ (xs : List ℕ). slice_range xs r.from c.text_end-text_to.result ≡ strip_carriage_return (slice_range xs r.from (r.from + c.args.at))) c.deref.ensures.value c.text_end-text_to.ensures.text in
    let whole : length r.buffer.items ≤ most_kept = i.0 in
    let ends : EndsAt (Some c.args.at) (slice_range r.buffer.items r.from r.to) = subst (EndsAt (Some c.args.at)) (sym (ap (λ (v : Reading). v.ahead) c.self.view_is)) c.requires in
    let g = gives r.buffer.items r.from r.to c.args.at r.taken r.number r.text_from r.text_to c.text_end-text_to.result whole i.1 i.2 i.3 i.4 ends told (omega (arith, c.if-text_to-self-gt-LONGEST.false)) c.text_end-text_to.ensures.end in
    (refl, rw (← c.self.view_is) g)

pub returns-then-text_to-self-gt-LONGEST : goal.returns-then-text_to-self-gt-LONGEST
returns-then-text_to-self-gt-LONGEST c =
    let r = c.self.inside in
    let i = c.self.invariant in
    let told : slice_range r.buffer.items r.from c.text_end-text_to.result ≡ strip_carriage_return (slice_range r.buffer.items r.from (r.from + c.args.at)) =
    subst (λ (xs : List ℕ). slice_range xs r.from c.text_end-text_to.result ≡ strip_carriage_return (slice_range xs r.from (r.from + c.args.at))) c.deref.ensures.value c.text_end-text_to.ensures.text in
    let whole : length r.buffer.items ≤ most_kept = i.0 in
    let ends : EndsAt (Some c.args.at) (slice_range r.buffer.items r.from r.to) = subst (EndsAt (Some c.args.at)) (sym (ap (λ (v : Reading). v.ahead) c.self.view_is)) c.requires in
    let inside = at_inside r.buffer.items r.from r.to c.args.at r.taken r.number r.text_from r.text_to c.text_end-text_to.result whole i.1 i.2 i.3 i.4 ends told in
    let g = is_long r.buffer.items r.from r.to c.args.at r.taken r.number r.text_from r.text_to c.text_end-text_to.result whole i.1 i.2 i.3 i.4 ends told (omega (arith, c.if-text_to-self-gt-LONGEST.true)) (omega (arith, inside, i.2, c.text_end-text_to.ensures.end)) in
    rw (← c.self.view_is) (refl, g)
