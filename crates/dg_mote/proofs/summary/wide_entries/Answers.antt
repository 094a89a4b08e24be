use Rattle.std.proofs.Common.{lit<, ◌∙◌}
use Rattle.dg_volume.specs.Store.{held}
use Rattle.dg_mote.proofs.SayLemmas.{wide_same}
use Rattle.dg_mote.proofs.summary.wide_entries.Goals as goal

pub returns : goal.returns
returns c s tells =
    wide_same s _ _ _ _ _ _
    (c.entry_of.ensures (held s 1) (c.kept.ensures ∙ tells.kept 1 (lit< tt) (λ h. h)))
    (c.entry_of-2.ensures (held s 2) (c.kept-2.ensures ∙ tells.kept 2 (lit< tt) (λ h. h)))
    (c.entry_of-3.ensures (held s 3) (c.kept-3.ensures ∙ tells.kept 3 (lit< tt) (λ h. h)))
    (c.entry_of-4.ensures (held s 4) (c.kept-4.ensures ∙ tells.kept 4 (lit< tt) (λ h. h)))
    (c.entry_of-5.ensures (held s 5) (c.kept-5.ensures ∙ tells.kept 5 (lit< tt) (λ h. h)))
    (c.entry_of-6.ensures (held s 6) (c.kept-6.ensures ∙ tells.kept 6 (lit< tt) (λ h. h)))
