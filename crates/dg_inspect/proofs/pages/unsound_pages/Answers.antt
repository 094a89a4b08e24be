use Rattle.std.proofs.Common.{◌≡◌, ℕ, ◌+◌, List, ap, ◌∙◌, arith}
use Rattle.std.specs.Prelude.{◌==◌, ◌&&◌, ◌||◌, not}
use Rattle.std.specs.FinSet as set
use Rattle.dg_base.specs.Crc.{crc_of}
use Rattle.dg_object.specs.Descriptor.{crc_in}
use Rattle.dg_slot.specs.Pages.{page_in}
use Rattle.dg_nor.proofs.ReadLemmas.{Looked_then, Looked-none}
use Rattle.dg_bits.proofs.SetLaws.{contains-none}
use Rattle.dg_inspect.proofs.PageLemmas.{bad_more, bad_none, bad_table, is_bad, zero_place}
use Rattle.dg_inspect.proofs.pages.unsound_pages.Goals as goal

pub loop-page-init : goal.loop-page-init
loop-page-init g c =
    let f = λ (p : ℕ). page_in (g.N.Nor.device c.args.nor.now).image (c.args.first + p) in
    record { marked = λ q. ap (λ s. set.contains s q) c.none-unsound.ensures ∙ contains-none q ∙ bad_none f q; looked = Looked-none _ }

pub loop-page-preserved : goal.loop-page-preserved
loop-page-preserved g c =
    let image = (g.N.Nor.device c.args.nor.now).image in
    let f = λ (p : ℕ). page_in image (c.args.first + p) in
    let p = c.loop-page.page in
    let before = c.loop-page.invariant in
    let read = c.in_ok-sound.ensures.same
    ∙ ap (λ (x : List ℕ). crc_of (page_in x (c.args.first + p)) == crc_in (page_in x c.args.first) p) before.looked.same_image
    ∙ ap (λ (k : ℕ). crc_of (page_in image (c.args.first + p)) == crc_in (page_in image k) p) (zero_place c.args.first) in
    record {
      marked = λ q. c.mark.ensures q ∙ ap (λ b. ((q == p) && not c.in_ok-sound.sound) || b) (before.marked q) ∙ bad_more f p q c.in_ok-sound.sound (omega arith) read;
      looked = Looked_then before.looked c.in_ok-sound.ensures.ends;
    }

pub returns-clause-unsound : goal.returns-clause-unsound
returns-clause-unsound g c p =
    let f = λ (p : ℕ). page_in (g.N.Nor.device c.args.nor.now).image (c.args.first + p) in
    let end : c.loop-page.page ≡ c.args.done = omega arith in
    c.loop-page.invariant.marked p ∙ ap (λ n. is_bad f n p) end ∙ bad_table f c.args.done p
