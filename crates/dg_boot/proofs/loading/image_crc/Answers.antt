use Rattle.std.proofs.Common.{◌≡◌, ℕ, suc, ◌+◌, ◌-◌, ◌*◌, ◌<◌, ◌≤◌, List, map, take, length, sym, ap, ◌∙◌, arith}
use Rattle.std.specs.List.{range_with_len}
use Rattle.dg_words.specs.Lists.{concatenated}
use Rattle.dg_words.specs.Cells.{part}
use Rattle.dg_base.specs.Crc.{crc_of, crc_more}
use Rattle.dg_nor.specs.Chip.{sector}
use Rattle.dg_nor.proofs.ChipLemmas.{length-sector}
use Rattle.dg_object.specs.Object.{pages_for}
use Rattle.dg_nor.specs.Sizes.{sectors, sector_size}
use Rattle.dg_slot.specs.Layout.{page_size, most_pages, program_sector}
use Rattle.dg_slot.specs.Pages.{page_in}
use Rattle.dg_nor.proofs.ReadLemmas.{Looked_then}
use Rattle.dg_boot.proofs.ContentLemmas.{page_summed, content-tabulate, all_summed, pages_begun, page_inside}
use Rattle.dg_boot.proofs.loading.image_crc.Goals as goal

pub loop-p-preserved : goal.loop-p-preserved
loop-p-preserved g c =
    let image = (g.N.Nor.device c.args.nor.now).image in
    let page = λ (q : ℕ). page_in image (program_sector q) in
    let p = c.loop-p.p in
    let all = c.div_ceil-p-end.result in
    let left = c.args.length - page_size * p in
    let total = crc_of (take c.args.length (concatenated (map page (range_with_len 1 all)))) in
    let before = c.loop-p.invariant in
    let chip = g.met.N.Nor.is_chip c.args.nor.now in
    let inside : p + 2 ≤ most_pages = page_inside c.args.length all p c.div_ceil-p-end.ensures c.requires (omega arith) in
    let known : 4 + p < sectors = omega arith in
    let whole : length (sector image (4 + p)) ≡ sector_size = length-sector image (4 + p) chip.cells known in
    let place : program_sector (p + 1) ≡ 4 + p = omega arith in
    let count : all - p ≡ suc (all - (p + 1)) = omega arith in
    let after : left - page_size ≡ c.args.length - page_size * (p + 1) = omega arith in
    let now : crc_more c.loop-p.crc (take left (concatenated (map page (range_with_len (p + 1) (suc (all - (p + 1))))))) ≡ total =
    ap (λ n. crc_more c.loop-p.crc (take left (concatenated (map page (range_with_len (p + 1) n))))) (sym count) ∙ before.summed in
    let read = c.in_ok-crc.ensures.crc ∙ ap (λ (d : List ℕ). crc_more c.loop-p.crc (part (sector d (4 + p)) 0 c.min-count.result)) before.looked.same_image in
    let next = page_summed page (sector image (4 + p)) left c.min-count.result (p + 1) (all - (p + 1)) c.loop-p.crc c.in_ok-crc.crc total
    (ap (page_in image) place) (omega arith) c.min-count.ensures read now in
    record {
      summed = ap (λ n. crc_more c.in_ok-crc.crc (take n (concatenated (map page (range_with_len (p + 1 + 1) (all - (p + 1))))))) (sym after) ∙ next;
      looked = Looked_then before.looked c.in_ok-crc.ensures.ends;
    }

pub returns-clause-crc : goal.returns-clause-crc
returns-clause-crc g c =
    let image = (g.N.Nor.device c.args.nor.now).image in
    let page = λ (q : ℕ). page_in image (program_sector q) in
    let p = c.loop-p.p in
    let all = c.div_ceil-p-end.result in
    let none : all - p ≡ 0 = omega arith in
    all_summed page (c.args.length - page_size * p) (p + 1) (all - p) c.loop-p.crc _ none c.loop-p.invariant.summed
    ∙ ap crc_of (sym (content-tabulate c.args.length (pages_for c.args.length) all page (pages_begun c.args.length all c.div_ceil-p-end.ensures)))
