use Rattle.std.proofs.Common.{◌≡◌, ℕ, ◌+◌, ◌-◌, ◌*◌, ◌/◌, ◌^◌, ◌<◌, length, get_or, set, min, ap, ◌∙◌, subst, sym, arith}
use Rattle.std.proofs.lemmas.List.{length-set}
use Rattle.std.proofs.lemmas.List.Edits.{fill_by_more}
use Rattle.dg_slot.specs.Header.{gates_of}
use Rattle.dg_words.proofs.BitsLemmas.{shifted_byte, cleared_bits_from}
use Rattle.dg_breaks.proofs.header.gates_of.Goals as goal

pub loop-j-preserved : goal.loop-j-preserved
loop-j-preserved c =
    let gates = c.loop-j.gates in
    let j = c.loop-j.j in
    let f = λ (k : ℕ). 2 ^ (8 - min 8 (c.args.done - 8 * k)) - 1 in
    let cleared : c.min-cleared.result ≡ min 8 (c.args.done - 8 * j) = omega (arith, c.min-cleared.ensures, c.saturating_sub.ensures) in
    let byte : 255 / 2 ^ c.min-cleared.result ≡ f j = ap (λ n. 255 / 2 ^ n) cleared ∙ shifted_byte (min 8 (c.args.done - 8 * j)) (omega arith) in
    let long : length (set gates j (255 / 2 ^ c.min-cleared.result)) ≡ 9 = length-set gates j (255 / 2 ^ c.min-cleared.result) ∙ c.loop-j.invariant.long in
    record {
      long = long;
      written = subst (λ (b : ℕ). (k : ℕ) → k < j + 1 → get_or (set gates j b) k 0 ≡ f k) (sym byte) (fill_by_more f gates j 0 (omega arith) c.loop-j.invariant.written);
    }

pub returns : goal.returns
unfolding gates_of
returns c = cleared_bits_from c.loop-j.gates 9 c.args.done c.loop-j.invariant.long (λ k h. c.loop-j.invariant.written k (omega arith))
