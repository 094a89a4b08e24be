use Rattle.std.proofs.Common.{ℕ, ◌+◌, ◌%◌, ◌∙◌, None, get_or, ap, refl, arith}
use Rattle.dg_ihex.specs.Sizes.{longest_image}
use Rattle.dg_ihex.proofs.WindowLemmas.{none_below, none_behind, told_by_cell}
use Rattle.dg_ihex.proofs.window.Window.byte_at.Goals as goal

pub returns-then-address-self : goal.returns-then-address-self
returns-then-address-self c blocks h =
    let low = h.lowest in
    none_below blocks c.args.address (omega (arith, low))

pub returns-then-address-self-2 : goal.returns-then-address-self-2
returns-then-address-self-2 c blocks h =
    let high = h.past in
    none_behind blocks c.args.address (omega (arith, high))

pub returns : goal.returns
returns c blocks h =
    let low = h.lowest in
    let high = h.past in
    let cell : ℕ = (c.args.address % longest_image + c.args.self.now.shift) % longest_image in
    c.cell_at.ensures ∙ ap (λ cells. get_or cells cell None) c.deref.ensures.value
    ∙ told_by_cell blocks c.args.address c.args.self.now.shift cell c.args.self.now.cells.items refl h.cells h.close (omega (arith, low)) (omega (arith, high))
