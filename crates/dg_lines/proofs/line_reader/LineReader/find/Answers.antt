use Rattle.std.proofs.Common.{◌≡◌, ◌+◌, ◌≤◌, List, ℕ, length, drop, sym, ap, ◌∙◌, subst, arith}
use Rattle.std.specs.Prelude.{slice_range}
use Rattle.dg_base.proofs.LineLemmas.{FirstFeed, first_at, none_in, lacks_feed}
use Rattle.dg_lines.specs.LineReading.{Reading, HasNoEnd}
use Rattle.dg_lines.proofs.ReaderLemmas.{searched, found_none, found_at, part_short}
use Rattle.dg_lines.proofs.line_reader.LineReader.find.Goals as goal

pub returns-in-None : goal.returns-in-None
returns-in-None c =
    let r = c.self.inside in
    let e : slice_range r.buffer.items r.from r.to ≡ c.args.self.now.ahead = ap (λ (v : Reading). v.ahead) c.self.view_is in
    let most = part_short r.buffer.items r.from r.to in
    let within : c.args.looked ≤ length (slice_range r.buffer.items r.from r.to) = subst (λ (xs : List ℕ). c.args.looked ≤ length xs) (sym e) c.requires.within in
    let inside : r.from + c.args.looked ≤ r.to = omega (arith, within, most, c.self.invariant.1) in
    let same : slice_range r.buffer.items (r.from + c.args.looked) r.to ≡ drop c.args.looked c.args.self.now.ahead = searched r.buffer.items r.from r.to c.args.looked inside ∙ ap (drop c.args.looked) e in
    found_none c.args.self.now.ahead c.args.looked c.requires.none (subst HasNoEnd same (subst (λ (xs : List ℕ). HasNoEnd (slice_range xs (r.from + c.args.looked) r.to)) c.deref.ensures.value (lacks_feed _ (none_in (slice_range c.deref.result.now (r.from + c.args.looked) r.to) c.in-None.ensures))))

pub returns-in-Some : goal.returns-in-Some
returns-in-Some c =
    let r = c.self.inside in
    let e : slice_range r.buffer.items r.from r.to ≡ c.args.self.now.ahead = ap (λ (v : Reading). v.ahead) c.self.view_is in
    let most = part_short r.buffer.items r.from r.to in
    let within : c.args.looked ≤ length (slice_range r.buffer.items r.from r.to) = subst (λ (xs : List ℕ). c.args.looked ≤ length xs) (sym e) c.requires.within in
    let inside : r.from + c.args.looked ≤ r.to = omega (arith, within, most, c.self.invariant.1) in
    let same : slice_range r.buffer.items (r.from + c.args.looked) r.to ≡ drop c.args.looked c.args.self.now.ahead = searched r.buffer.items r.from r.to c.args.looked inside ∙ ap (drop c.args.looked) e in
    found_at c.args.self.now.ahead c.args.looked c.in-Some.at c.requires.within c.requires.none (subst (λ (xs : List ℕ). FirstFeed xs c.in-Some.at) same (subst (λ (xs : List ℕ). FirstFeed (slice_range xs (r.from + c.args.looked) r.to) c.in-Some.at) c.deref.ensures.value (first_at (slice_range c.deref.result.now (r.from + c.args.looked) r.to) c.in-Some.at c.in-Some.ensures)))
