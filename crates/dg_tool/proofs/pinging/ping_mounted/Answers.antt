use Rattle.std.proofs.Common.{◌≡◌, ℕ, List, [], ◌++◌, ap, ◌∙◌, rules}
use Rattle.dg_volume.specs.Store.{held}
use Rattle.dg_boot.proofs.BootLemmas.{mounted_looked}
use Rattle.dg_tool.specs.inner.OnChip.{kept_lines}
use Rattle.dg_tool.specs.Verbs.{commits_text}
use Rattle.dg_tool.proofs.ReadLemmas.{reads_err, reads_wants}
use Rattle.dg_end.proofs.TextLemmas.{behind_none}
use Rattle.dg_tool.proofs.KeptLemmas.{golden_here, golden_line}
use Rattle.dg_nor.proofs.ReadLemmas.{Looked_then}
use Rattle.dg_tool.proofs.pinging.ping_mounted.Goals as goal

pub returns-in_err-push_golden-clause-ends : goal.returns-in_err-push_golden-clause-ends
returns-in_err-push_golden-clause-ends g c = reads_wants c.from_residual-in_err-push_golden.result _ _ c.from_residual-in_err-push_golden.ensures.1 c.in_ok-golden.ensures.ends

pub returns-in_err-push_commits-clause-ends : goal.returns-in_err-push_commits-clause-ends
returns-in_err-push_commits-clause-ends g c = reads_wants c.from_residual-in_err-push_commits.result _ _ c.from_residual-in_err-push_commits.ensures.1 c.in_ok-golden.ensures.ends

pub returns-in_err-push_images-clause-ends : goal.returns-in_err-push_images-clause-ends
returns-in_err-push_images-clause-ends g c = reads_err ℕ c.from_residual-in_err-push_images.result c.in_err-push_images.field-0.0 _ _ _ c.from_residual-in_err-push_images.ensures.1 c.in_ok-golden.ensures.ends c.in_err-push_images.ensures.ends

pub returns-clause-told : goal.returns-clause-told
returns-clause-told g c = λ s mounted.
    let x = golden_here _ c.args.volume.now s mounted in
    let told = c.in_ok-golden.ensures.told x.kept x.keeps x.some in
    let first = c.in_ok-push_golden.ensures in
    let second = c.in_ok-push_commits.ensures s mounted.tells in
    let empty : c.new-text.result.items ≡ [] = search rules in
    let third = c.in_ok-push_images.ensures.told s (mounted_looked s _ _ c.args.volume.now c.in_ok-golden.ensures.ends mounted) in
    third
    ∙ ap (λ (t : List ℕ). t ++ kept_lines s) (second ∙ ap (λ (t : List ℕ). t ++ commits_text s) (behind_none _ _ _ _ empty first (golden_line (held s 0) x.kept _ _ x.here told.0 told.1)))

pub returns-clause-ends : goal.returns-clause-ends
returns-clause-ends g c = Looked_then c.in_ok-golden.ensures.ends c.in_ok-push_images.ensures.ends
