use Rattle.std.proofs.Common.{◌≡◌, ℕ, ◌-◌, ◌++◌, ap, ◌∙◌, arith}
use Rattle.std.specs.List.{flat_map, range_with_len}
use Rattle.dg_volume.specs.Sizes.{images}
use Rattle.dg_volume.specs.Store.{held}
use Rattle.dg_nor.proofs.ReadLemmas.{Looked_then}
use Rattle.dg_boot.proofs.BootLemmas.{mounted_looked}
use Rattle.dg_tool.specs.Verbs.{ping_line}
use Rattle.dg_end.proofs.TextLemmas.{lines_more}
use Rattle.dg_tool.proofs.ReadLemmas.{reads_err}
use Rattle.dg_tool.proofs.pinging.push_images.Goals as goal

pub loop-image-preserved : goal.loop-image-preserved
loop-image-preserved g c =
    let i = c.loop-image.invariant in
    record {
      told = λ s mounted.
          lines_more (λ j. ping_line j (held s j)) c.args.text.now.items c.loop-image.text.items c.push_image.new.text.items c.loop-image.image i.some (i.told s mounted)
          (c.in_ok-push_image.ensures.told s (mounted_looked s _ _ c.args.volume.now i.looked mounted));
      some = omega (arith, i.some);
      looked = Looked_then i.looked c.in_ok-push_image.ensures.ends;
    }

pub returns-in_err-push_image-clause-ends : goal.returns-in_err-push_image-clause-ends
returns-in_err-push_image-clause-ends g c = reads_err ℕ c.from_residual.result c.in_err-push_image.field-0.0 _ _ _ c.from_residual.ensures.1 c.loop-image.invariant.looked c.in_err-push_image.ensures.ends

pub returns-clause-told : goal.returns-clause-told
returns-clause-told g c = λ s mounted.
    let last : c.loop-image.image - 1 ≡ images - 1 = omega (arith, c.loop-image-test.false, c.loop-image.auto.image-end) in
    c.loop-image.invariant.told s mounted ∙ ap (λ (n : ℕ). c.args.text.now.items ++ flat_map (λ j. ping_line j (held s j)) (range_with_len 1 n)) last
