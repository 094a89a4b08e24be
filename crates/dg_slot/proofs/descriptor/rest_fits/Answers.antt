use Rattle.std.proofs.Common.{◌≡◌, ◌+◌, ◌-◌, List, ℕ, refl, length, take, ap, sym, ◌∙◌, subst, arith, rules}
use Rattle.std.proofs.lemmas.Bool.{false≢true}
use Rattle.dg_words.specs.Cells.{part}
use Rattle.dg_object.specs.Sizes.{page_size, head_size}
use Rattle.dg_object.specs.Descriptor.{RestFits}
use Rattle.dg_nor.specs.Chip.{sector}
use Rattle.dg_nor.proofs.ChipLemmas.{length-sector}
use Rattle.dg_nor.proofs.ReadLemmas.{Looked-none, Looked_then}
use Rattle.dg_slot.proofs.DescriptorLemmas.{rest_none, rest_more, rest_part}
use Rattle.dg_slot.proofs.descriptor.rest_fits.Goals as goal

pub loop-at-init : goal.loop-at-init
loop-at-init g c =
    record {
      behind = omega arith;
      within = omega arith;
      fits = rest_none c.args.first.now.pages (sector (g.N.Nor.device c.args.nor.now).image c.args.index);
      looked = Looked-none _;
    }

pub returns-then-not-branch-clause-fits : goal.returns-then-not-branch-clause-fits
returns-then-not-branch-clause-fits g c =
    let at = c.loop-at.at in
    let n = c.min-len.result in
    let image = (g.N.Nor.device c.args.nor.now).image in
    let chip = g.met.N.Nor.is_chip c.args.nor.now in
    let whole : length (sector image c.args.index) ≡ 2048 = length-sector image c.args.index chip.cells c.requires in
    let long : length (take n c.loop-at.piece) ≡ n = search rules in
    let same = ap (λ (d : List ℕ). sector d c.args.index) c.loop-at.invariant.looked.same_image in (
      λ yes. absurd (false≢true yes),
      λ all. absurd (false≢true (sym c.if-not-branch.true ∙ c.in_ok-piece_fits.ensures.fits.1 (rest_part c.args.first.now.pages at n _ (sector image c.args.index) _ all same long c.loop-at.invariant.behind (omega (arith, c.min-len.ensures)) (omega arith)))),
    )

pub loop-at-preserved : goal.loop-at-preserved
loop-at-preserved g c =
    let at = c.loop-at.at in
    let n = c.min-len.result in
    let image = (g.N.Nor.device c.args.nor.now).image in
    let cells = sector image c.args.index in
    let chip = g.met.N.Nor.is_chip c.args.nor.now in
    let whole : length cells ≡ 2048 = length-sector image c.args.index chip.cells c.requires in
    let long : length (take n c.loop-at.piece) ≡ n = search rules in
    let before = c.loop-at.invariant in
    let same = ap (λ (d : List ℕ). sector d c.args.index) before.looked.same_image in
    let here = c.in_ok-piece_fits.ensures.fits.0 c.if-not-branch.false in
    record {
      behind = omega arith;
      within = omega (arith, c.min-len.ensures);
      fits = rest_more c.args.first.now.pages at n _ (at + n - head_size) cells _ before.fits here same long before.behind (omega (arith, c.min-len.ensures)) refl;
      looked = Looked_then before.looked c.in_ok-piece_fits.ensures.ends;
    }

pub returns-clause-fits : goal.returns-clause-fits
returns-clause-fits g c =
    let end : c.loop-at.at ≡ page_size = omega (arith, c.loop-at-test.false, c.loop-at.invariant.within) in (
      λ _. subst (λ (n : ℕ). RestFits c.args.first.now.pages head_size (part (sector (g.N.Nor.device c.args.nor.now).image c.args.index) head_size (n - head_size))) end c.loop-at.invariant.fits,
      λ _. refl,
    )

pub returns-then-not-branch-clause-ends : goal.returns-then-not-branch-clause-ends
returns-then-not-branch-clause-ends g c = Looked_then c.loop-at.invariant.looked c.in_ok-piece_fits.ensures.ends
