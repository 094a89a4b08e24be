use Rattle.std.proofs.Common.{◌≤◌, ◌<◌, length, sym, ap, subst, arith, refl}
use Rattle.std.specs.Prelude.{slice_range}
use Rattle.dg_lines.specs.LineReading.{Reading, HasNoEnd, most_kept}
use Rattle.dg_lines.proofs.ReaderLemmas.{gives_last, last_long}
use Rattle.dg_lines.proofs.line_reader.LineReader.give_rest.Goals as goal

pub returns : goal.returns
returns c =
    let r = c.self.inside in
    let i = c.self.invariant in
    let none : HasNoEnd (slice_range r.buffer.items r.from r.to) = subst HasNoEnd (sym (ap (λ (v : Reading). v.ahead) c.self.view_is)) c.requires in
    let whole : length r.buffer.items ≤ most_kept = i.0 in
    let some : r.from < r.to = omega (arith, i.1, c.if-self.false) in
    let g = gives_last r.buffer.items r.from r.to r.taken r.number r.text_from r.text_to whole i.2 i.3 i.4 none some (omega (arith, c.if-self-gt-LONGEST.false)) in
    (refl, rw (← c.self.view_is) g)

pub returns-then-self-gt-LONGEST : goal.returns-then-self-gt-LONGEST
returns-then-self-gt-LONGEST c =
    let r = c.self.inside in
    let i = c.self.invariant in
    let none : HasNoEnd (slice_range r.buffer.items r.from r.to) = subst HasNoEnd (sym (ap (λ (v : Reading). v.ahead) c.self.view_is)) c.requires in
    let whole : length r.buffer.items ≤ most_kept = i.0 in
    let some : r.from < r.to = omega (arith, i.1, c.if-self.false) in
    let g = last_long r.buffer.items r.from r.to r.taken r.number r.text_from r.text_to whole i.2 i.3 i.4 none some (omega (arith, c.if-self-gt-LONGEST.true)) in
    rw (← c.self.view_is) (refl, g)
