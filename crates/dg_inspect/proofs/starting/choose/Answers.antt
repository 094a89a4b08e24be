use Rattle.std.proofs.Common.{◌≡◌, true, false, sym, ap, ◌∙◌}
use Rattle.std.specs.Prelude.{◌==◌, ◌&&◌, Some}
use Rattle.std.proofs.lemmas.Bool.{and_parts}
use Rattle.dg_volume.specs.Sizes.{short_starts}
use Rattle.dg_volume.specs.Start.{order_waits, sound}
use Rattle.dg_control.specs.declared.snapshot.Order.{Order}
use Rattle.dg_inspect.proofs.StartingLemmas.{runs_by_gesture, runs_by_order, runs_else, reason_by_gesture, reason_by_order, reason_else, waives_gesture, waives_order, waives_else}
use Rattle.dg_inspect.proofs.starting.choose.Goals as goal

pub returns-then-facts : goal.returns-then-facts
returns-then-facts c t facts =
    let gesture = sym facts.short_starts ∙ c.if-facts.true in
    record { runs = c.golden_start.ensures t true facts ∙ sym (runs_by_gesture t gesture); reason = sym (reason_by_gesture t gesture); waives = waives_gesture t gesture }

pub returns-then-starts_order : goal.returns-then-starts_order
returns-then-starts_order c t facts =
    let gesture = sym facts.short_starts ∙ c.if-facts.false in
    let both : (order_waits t && sound t t.order.image) ≡ true = ap (λ b. b && sound t t.order.image) (sym facts.waits) ∙ ap (λ b. c.args.facts.now.waits && b) (sym facts.order_sound) ∙ sym c.starts_order.ensures ∙ c.if-starts_order.true in
    let parts = and_parts (order_waits t) (sound t t.order.image) both in
    record {
      runs = ap (λ (o : Order). Some (record { image = o.image; version = o.version })) facts.order ∙ sym (runs_by_order t gesture parts.0 parts.1);
      reason = sym (reason_by_order t gesture both);
      waives = waives_order t both;
    }

pub returns : goal.returns
returns c t facts =
    let gesture = sym facts.short_starts ∙ c.if-facts.false in
    let none : (order_waits t && sound t t.order.image) ≡ false = ap (λ b. b && sound t t.order.image) (sym facts.waits) ∙ ap (λ b. c.args.facts.now.waits && b) (sym facts.order_sound) ∙ sym c.starts_order.ensures ∙ c.if-starts_order.false in
    record {
      runs = c.run_on.ensures.runs t (t.gesture == short_starts) facts ∙ sym (runs_else t gesture none);
      reason = c.run_on.ensures.reason t facts ∙ sym (reason_else t gesture none);
      waives = c.run_on.ensures.waives ∙ facts.waits ∙ waives_else t gesture none;
    }
