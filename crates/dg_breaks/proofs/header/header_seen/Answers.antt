use Rattle.std.proofs.Common.{◌∙◌, sym, ap, arith}
use Rattle.dg_slot.specs.Header.{gates_of}
use Rattle.dg_slot.proofs.HeaderLemmas.{pages_read, done_read, other_bytes}
use Rattle.dg_breaks.proofs.header.header_seen.Goals as goal
use Rattle.dg_breaks.proofs.header.header_seen.Goals.{then-pages-lt-FEWEST_PAGES-via-then-pages-lt-FEWEST_PAGES, then-pages-lt-FEWEST_PAGES-via-else-pages-lt-FEWEST_PAGES+then-pages-gt-MOST_PAGES, then-pages-lt-FEWEST_PAGES-via-else-pages-lt-FEWEST_PAGES+else-pages-gt-MOST_PAGES+then-done-pages}

pub returns-then-ne-2-clause-no_fit : goal.returns-then-ne-2-clause-no_fit
returns-then-ne-2-clause-no_fit c _ pages crc done h =
    other_bytes _ _ (c.gates_of.ensures ∙ ap gates_of (c.cleared-done.ensures ∙ done_read _ _ _ _ pages crc done h) ∙ sym h.cleared) c.if-ne-2.ensures

pub returns-then-pages-lt-FEWEST_PAGES-clause-no_fit : goal.returns-then-pages-lt-FEWEST_PAGES-clause-no_fit
returns-then-pages-lt-FEWEST_PAGES-clause-no_fit c _ pages crc done h =
    let p = pages_read _ _ _ _ pages crc done h in
    let d = c.cleared-done.ensures ∙ done_read _ _ _ _ pages crc done h in
    let some = h.some in
    let most = h.most in
    let within = h.within in
    elim c.then-pages-lt-FEWEST_PAGES.branch [
      | then-pages-lt-FEWEST_PAGES-via-then-pages-lt-FEWEST_PAGES w ↦ omega arith
      | then-pages-lt-FEWEST_PAGES-via-else-pages-lt-FEWEST_PAGES+then-pages-gt-MOST_PAGES w ↦ omega arith
      | then-pages-lt-FEWEST_PAGES-via-else-pages-lt-FEWEST_PAGES+else-pages-gt-MOST_PAGES+then-done-pages w ↦ omega arith
    ]
