use Rattle.std.proofs.Common.{◌≡◌, ℕ, suc, ◌+◌, ◌-◌, ◌*◌, ◌<◌, ◌≤◌, List, [], ◌++◌, map, take, length, sym, ap, subst, ◌∙◌, arith}
use Rattle.std.specs.List.{range_with_len}
use Rattle.sha2.specs.Sha256.{sha256}
use Rattle.sha2.specs.Hashers.{Holds256}
use Rattle.dg_words.specs.Lists.{concatenated}
use Rattle.dg_words.specs.Cells.{part}
use Rattle.dg_base.specs.Crc.{crc_of, crc_more}
use Rattle.dg_base.proofs.CrcLemmas.{crc_more-append, crc_more-nil}
use Rattle.dg_nor.specs.Chip.{sector}
use Rattle.dg_nor.specs.Sizes.{sectors, sector_size}
use Rattle.dg_nor.proofs.ChipLemmas.{length-sector}
use Rattle.dg_object.specs.Object.{pages_for}
use Rattle.dg_slot.specs.Layout.{page_size, most_pages}
use Rattle.dg_slot.specs.Pages.{page_in}
use Rattle.dg_nor.proofs.ReadLemmas.{Looked_then, Looked-none}
use Rattle.dg_boot.proofs.ContentLemmas.{content-tabulate, pages_begun, page_inside}
use Rattle.dg_inspect.proofs.PageLemmas.{page_added, all_added}
use Rattle.dg_inspect.proofs.pages.see_bytes.Goals as goal

pub loop-p-init : goal.loop-p-init
loop-p-init g c =
    let image = (g.N.Nor.device c.args.nor.now).image in
    let page = λ (q : ℕ). page_in image (c.args.first + q) in
    let all = c.div_ceil-p-end.result in
    let none : c.args.length - page_size * 0 ≡ c.args.length = omega arith in
    let rest : all - 0 ≡ all = omega arith in
    record {
      summed = (
        [],
        c.new-hasher.ensures,
        sym (crc_more-nil 0),
        ap (λ n. take n (concatenated (map page (range_with_len 1 (all - 0))))) none ∙ ap (λ n. take c.args.length (concatenated (map page (range_with_len 1 n)))) rest,
      );
      looked = Looked-none _;
    }

pub loop-p-preserved : goal.loop-p-preserved
loop-p-preserved g c =
    let image = (g.N.Nor.device c.args.nor.now).image in
    let page = λ (q : ℕ). page_in image (c.args.first + q) in
    let p = c.loop-p.p in
    let all = c.div_ceil-p-end.result in
    let left = c.args.length - page_size * p in
    let total = take c.args.length (concatenated (map page (range_with_len 1 all))) in
    let before = c.loop-p.invariant in
    let done = c.in_ok-crc.ensures in
    let chip = g.met.N.Nor.is_chip c.args.nor.now in
    let index = c.args.first + 1 + p in
    let inside : p + 2 ≤ most_pages = page_inside c.args.length all p c.div_ceil-p-end.ensures c.requires.fits (omega arith) in
    let known : index < sectors = omega arith in
    let whole : length (sector image index) ≡ sector_size = length-sector image index chip.cells known in
    let place : c.args.first + (p + 1) ≡ index = omega arith in
    let count : all - p ≡ suc (all - (p + 1)) = omega arith in
    let after : left - page_size ≡ c.args.length - page_size * (p + 1) = omega arith in
    let m = before.summed.0 in
    let piece = part (sector image index) 0 c.min-count.result in
    let same : part (sector (g.N.Nor.device c.loop-p.nor).image index) 0 c.min-count.result ≡ piece = ap (λ (x : List ℕ). part (sector x index) 0 c.min-count.result) before.looked.same_image in
    let now : m ++ take left (concatenated (map page (range_with_len (p + 1) (suc (all - (p + 1)))))) ≡ total =
    ap (λ n. m ++ take left (concatenated (map page (range_with_len (p + 1) n)))) (sym count) ∙ before.summed.3 in
    let next = page_added page (sector image index) m total left c.min-count.result (p + 1) (all - (p + 1)) (ap (page_in image) place) (omega arith) c.min-count.ensures now in
    record {
      summed = (
        m ++ piece,
        subst (λ (x : List ℕ). Holds256 c.add_page.new.hasher (m ++ x)) same (done.held m before.summed.1),
        done.crc ∙ ap (crc_more c.loop-p.crc) same ∙ ap (λ k. crc_more k piece) before.summed.2 ∙ crc_more-append 0 m piece,
        ap (λ n. (m ++ piece) ++ take n (concatenated (map page (range_with_len (p + 1 + 1) (all - (p + 1)))))) (sym after) ∙ next,
      );
      looked = Looked_then before.looked done.ends;
    }

pub returns-clause-crc : goal.returns-clause-crc
returns-clause-crc g c =
    let image = (g.N.Nor.device c.args.nor.now).image in
    let page = λ (q : ℕ). page_in image (c.args.first + q) in
    let p = c.loop-p.p in
    let all = c.div_ceil-p-end.result in
    let none : all - p ≡ 0 = omega arith in
    let before = c.loop-p.invariant.summed in
    before.2 ∙ ap crc_of (all_added page before.0 _ (c.args.length - page_size * p) (p + 1) (all - p) none before.3 ∙ sym (content-tabulate c.args.length (pages_for c.args.length) all page (pages_begun c.args.length all c.div_ceil-p-end.ensures)))

pub returns-clause-sha256 : goal.returns-clause-sha256
returns-clause-sha256 g c =
    let image = (g.N.Nor.device c.args.nor.now).image in
    let page = λ (q : ℕ). page_in image (c.args.first + q) in
    let p = c.loop-p.p in
    let all = c.div_ceil-p-end.result in
    let none : all - p ≡ 0 = omega arith in
    let before = c.loop-p.invariant.summed in
    c.finalize.ensures before.0 before.1
    ∙ ap sha256 (all_added page before.0 _ (c.args.length - page_size * p) (p + 1) (all - p) none before.3 ∙ sym (content-tabulate c.args.length (pages_for c.args.length) all page (pages_begun c.args.length all c.div_ceil-p-end.ensures)))
