use Rattle.std.proofs.Common.{◌≡◌, map, length, drop, refl, arith, ap, subst, ◌∙◌, List, ℕ, Some}
use Rattle.dg_chain.specs.Chain.{chain}
use Rattle.dg_chain.specs.Checking.{answer_of, Fine}
use Rattle.dg_end.specs.Lines.{text_outcome}
use Rattle.dg_tool.specs.Done.{OnBoards}
use Rattle.dg_tool.specs.Rules.{reading_rule}
use Rattle.dg_tool.proofs.BoardLemmas.{lent_back}
use Rattle.dg_tool.proofs.ToolLemmas.{first_done}
use Rattle.dg_volume.specs.Store.{held}
use Rattle.dg_chain_tool.specs.Verbs.{check_by}
use Rattle.dg_chain_tool.proofs.CheckLemmas.{done_fine, own_ending, told_by, never_read, done_rule, lent_same, some_boards}
use Rattle.dg_chain_tool.proofs.check.Goals as goal

pub returns-clause-does : goal.returns-clause-does
returns-clause-does g c = λ rest.
    let outcome = text_outcome (λ text. text.items) c.check_first-outcome.result in
    let lent = c.as_mut_slice.ensures in
    first_done _ outcome _ _ c.answer.ensures.ends c.answer.ensures.counts refl refl _
    (lent_back g.N.Nor.device (λ old new. OnBoards outcome (reading_rule old (λ s. check_by c.args.root.now (held s c.args.image))) ⊥ old new) c.args.boards.now.len
    _ c.args.boards.now.items c.check_first-outcome.new.boards _ lent.value (omega (arith, c.check_first-outcome.auto.boards, lent.len)) c.check_first-outcome.ensures.done)
    refl

pub returns-clause-unchanged : goal.returns-clause-unchanged
returns-clause-unchanged g c =
    let lent = c.as_mut_slice.ensures in
    lent_same (λ board. (g.N.Nor.device board).image) c.args.boards.now.len _ c.args.boards.now.items c.check_first-outcome.new.boards _ lent.value (omega (arith, c.check_first-outcome.auto.boards, lent.len)) c.check_first-outcome.ensures.unchanged

pub returns-clause-named : goal.returns-clause-named
returns-clause-named g c = λ x s h payload root stands here done.
    let lent = c.as_mut_slice.ensures in
    let d = rw lent.value at c.check_first-outcome.ensures.done in
    let r = done_rule c.answer.result _ _ _ _ _ _ _ _ done c.answer.ensures.ends (d.rules (Some s) stands) in
    let fine = done_fine _ c.args.image c.args.root.now s h r.0 here r.1 in
    c.a_root_names_its_pages.ensures.named x (drop 1 h.complete) fine.0 payload (subst (λ (y : List ℕ). answer_of y (drop 1 h.complete) ≡ Fine fine.0) root fine.1)

pub returns-clause-own : goal.returns-clause-own
returns-clause-own g c = λ x s h payload root stands here some whole same.
    let lent = c.as_mut_slice.ensures in
    let d = rw lent.value at c.check_first-outcome.ensures.done in
    let pages = ap (λ (ps : List (List ℕ)). answer_of c.args.root.now ps) same ∙ ap (λ (r : List ℕ). answer_of r (chain x)) root ∙ c.a_root_names_its_pages.ensures.own x payload in
    told_by c.answer.result _ _ (length x) _ _ _ _ _ _ (own_ending (length (map g.N.Nor.device c.args.boards.now.items)) c.args.image c.args.root.now s h (length x) (some_boards g.N.Nor.device c.args.boards.now.items some) here whole pages) (d.rules (Some s) stands)
    (never_read _ _ _ _ d) c.answer.ensures.ends
