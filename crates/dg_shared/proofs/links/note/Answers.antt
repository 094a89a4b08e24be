use Rattle.std.proofs.Common.{◌≡◌, ℕ, ◌<◌, length, set as put, ap, ◌∙◌, arith}
use Rattle.std.specs.Prelude.{slice_index_or}
use Rattle.std.specs.FinSet as set
use Rattle.std.proofs.lemmas.List.{get_or_default}
use Rattle.dg_bits.specs.Sets.{Numbers}
use Rattle.dg_shared.specs.Neighbours.{is_noted}
use Rattle.dg_shared.proofs.LinkLemmas.{noted}
use Rattle.dg_shared.proofs.links.note.Goals as goal

pub returns-then-from-lt-MOST_MOTES-2 : goal.returns-then-from-lt-MOST_MOTES-2
returns-then-from-lt-MOST_MOTES-2 c = λ x y h k.
    let sets = c.args.neighbours.now in
    let a = c.args.a in
    let i = c.from-then-from-lt-MOST_MOTES-2 in
    let known : a < length sets = omega arith in
    let first : i.result < length sets = omega (arith, i.ensures) in
    let new : c.set.new.self ≡ set.insert (slice_index_or sets a set.empty) c.args.b = c.set.ensures
    ∙ ap (λ (s : Numbers). set.insert s c.args.b) (get_or_default sets i.result c.index-neighbours-from.result set.empty first ∙ ap (λ (n : ℕ). slice_index_or sets n set.empty) i.ensures) in
    ap (λ (n : ℕ). is_noted (put sets n c.set.new.self) x y) c.from-then-from-lt-MOST_MOTES-2-2.ensures ∙ ap (λ (s : Numbers). is_noted (put sets a s) x y) new
    ∙ noted sets a c.args.b x y known
