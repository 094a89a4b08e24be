-- Which motes are narrow stays unchanged, and what a narrow mote refuses.
use Rattle.std.proofs.Common.{◌≡◌, ℕ, ◌+◌, ◌<◌, Bool, false, cond, List, [], ◌∷◌, Option, Some, None, refl, sym, ap, ◌∙◌}
use Rattle.std.specs.Prelude.{nat_le, ◌||◌}
use Rattle.std.proofs.lemmas.Bool.{lt-leb}
use Rattle.dg_object.specs.Object.{Row}
use Rattle.dg_volume.specs.Table.{row_at}
use Rattle.dg_frame.specs.Sizes.{narrow_images}
use Rattle.dg_rules.specs.World.{World, wide_at}
use Rattle.dg_rules.specs.Events.{Does, Refuses, knows, injects, orders, does}
use Rattle.dg_rules.specs.Steps.{DeclareStep, EndsRun, declared_as}
use Rattle.dg_rules.specs.Runs.{Played, ItemStep, Plays}
use Rattle.dg_base.specs.declared.events.Event.TheVariants.{Inject, Order as OrderEvent}
use Rattle.dg_base.specs.declared.events.Step.{Step}
use Rattle.dg_script.specs.Items.{Item, Declares, Applies}
use Rattle.dg_script.specs.declared.report.Cause.TheVariants.{Image}
use Rattle.dg_script.specs.declared.report.Report.{Report}
use Rattle.dg_rules.proofs.EventLemmas.{order_of}
use Rattle.dg_rules.proofs.StepLemmas.{step_narrow}

-- ---- which motes are narrow

narrow_declared : (o : Option Row) (w : World) (row : Row) → (declared_as o w row).narrow ≡ w.narrow
narrow_declared None w row = refl
narrow_declared (Some kept) w row = refl

pub declare_narrow : (w v : World) (row : Row) (reports : List Report) → DeclareStep w row v reports → v.narrow ≡ w.narrow
declare_narrow w v row reports did = ap (λ (u : World). u.narrow) did.world ∙ narrow_declared (row_at w.declared row.image row.version) w row

pub ended_narrow : (w v : World) (x : Step) → EndsRun w x v → v.narrow ≡ w.narrow
ended_narrow w v x ends = ap (λ (u : World). u.narrow) ends.world

item_narrow : (item : Item) (w v : World) (reports : List Report) → ItemStep w item v reports → v.narrow ≡ w.narrow
item_narrow (Declares row) w v reports did = declare_narrow w v row reports did
item_narrow (Applies x reported) w v reports did = step_narrow w x v did.0 did.1

pub played_narrow : (w v : World) (played : List Played) → Plays w played v → v.narrow ≡ w.narrow
unfolding Plays
played_narrow w v [] run = ap (λ (u : World). u.narrow) (sym run)
played_narrow w v (p ∷ ps) run = played_narrow p.after v ps run.2 ∙ item_narrow p.item p.before p.after p.reports run.1 ∙ ap (λ (u : World). u.narrow) run.0

-- ---- what a narrow mote refuses

knows_not : (wide : Bool) (image : ℕ) → wide ≡ false → narrow_images < image → knows wide image ≡ false
knows_not wide image narrow high = ap (λ (b : Bool). b || nat_le image narrow_images) narrow ∙ lt-leb image narrow_images high

refuses : (wide : Bool) (image : ℕ) (d : Does) → wide ≡ false → narrow_images < image → cond (knows wide image) d (Refuses Image) ≡ Refuses Image
refuses wide image d narrow high = ap (λ (b : Bool). cond b d (Refuses Image)) (knows_not wide image narrow high)

pub refuses_injection : (w : World) (m image version dt word : ℕ) → wide_at w m ≡ false → narrow_images < image → does w (Inject m image version dt word) ≡ Refuses Image
unfolding does
refuses_injection w m image version dt word narrow high = refuses (wide_at w m) image (injects w m image version (w.moment + dt) word) narrow high

pub refuses_order : (w : World) (m number image version dt word : ℕ) → wide_at w m ≡ false → narrow_images < image → does w (OrderEvent m number image version dt word) ≡ Refuses Image
unfolding does
refuses_order w m number image version dt word narrow high = refuses (wide_at w m) image (orders w m (order_of number image version) (w.moment + dt) word) narrow high
