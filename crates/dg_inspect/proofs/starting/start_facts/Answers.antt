use Rattle.std.proofs.Common.{◌≡◌, ◌<◌, sym, ap, ◌∙◌, arith, refl}
use Rattle.dg_control.specs.declared.snapshot.Order.{Order}
use Rattle.dg_control.specs.declared.snapshot.Snapshot.{Snapshot}
use Rattle.dg_volume.specs.Sizes.{images}
use Rattle.dg_volume.specs.Store.{Store, held}
use Rattle.dg_volume.specs.Start.{is_whole, sound}
use Rattle.dg_volume.specs.Told.{told, program_told}
use Rattle.dg_inspect.specs.Starts.{once_counted}
use Rattle.dg_inspect.specs.Facts.{counted_gesture, counted_room, blank_or_golden}
use Rattle.dg_inspect.proofs.StartingLemmas.{counted_field}
use Rattle.dg_inspect.proofs.FactsLemmas.{waits_counted, by_gesture_counted, sound_counted}
use Rattle.dg_inspect.proofs.starting.start_facts.Goals as goal

pub returns : goal.returns
returns c c' s mounted shown =
    let says = mounted.tells.says in
    let now : Snapshot = c.snapshot-now.result in
    let program : now.program ≡ program_told s.app = ap (λ (p : Snapshot). p.program) c.snapshot-now.ensures ∙ says.program in
    let order : now.order ≡ s.order = ap (λ (p : Snapshot). p.order) c.snapshot-now.ensures ∙ says.order in
    let waived : now.waived ≡ s.waived = ap (λ (p : Snapshot). p.waived) c.snapshot-now.ensures ∙ says.waived in
    let gesture : now.gesture ≡ s.gesture = ap (λ (p : Snapshot). p.gesture) c.snapshot-now.ensures ∙ says.gesture in
    let room : c.room.result ≡ s.room = c.room.ensures ∙ mounted.tells.room in
    let room-2 : c.room-2.result ≡ s.room = c.room-2.ensures ∙ mounted.tells.room in
    let counted : c.counted_gesture-gesture.result ≡ counted_gesture s.gesture s.room =
    c.counted_gesture-gesture.ensures ∙ ap (λ n. counted_gesture n c.room.result) gesture ∙ ap (counted_gesture s.gesture) room in
    let left : c.counted_room-room.result ≡ counted_room s.gesture s.room =
    c.counted_room-room.ensures ∙ ap (λ n. counted_room n c.room-2.result) gesture ∙ ap (counted_room s.gesture) room-2 in
    let known : now.order.image < images = c.is_image_sound.ensures.known in
    let image : now.order.image ≡ s.order.image = ap (λ (o : Order). o.image) order in
    let version : now.order.version ≡ s.order.version = ap (λ (o : Order). o.version) order in
    let kept : c.kept.result ≡ told (held s s.order.image) = c.kept.ensures ∙ mounted.tells.kept now.order.image known (λ no. no) ∙ ap (λ i. told (held s i)) image in
    let whole : c.is_whole-whole.result ≡ is_whole (held s s.order.image) s.order.version = c.is_whole-whole.ensures (held s s.order.image) kept ∙ ap (is_whole (held s s.order.image)) version in
    let stands = mounted.stands.contains.kept in
    record {
      short_starts = c.starts_golden.ensures s.app program ∙ by_gesture_counted s c.counted_gesture-gesture.result c.counted_room-room.result (blank_or_golden s.app) counted left refl;
      waits = c.orders_start.ensures s program order waived ∙ waits_counted s c.is_whole-whole.result c.counted_room-room.result whole left;
      order_sound = c.is_image_sound.ensures.sound c' (held s now.order.image) (stands now.order.image known) (shown now.order.image known) ∙ ap (sound s) image ∙ sym (sound_counted s s.order.image) ∙ ap (λ (o : Order). sound (once_counted s) o.image) (sym (counted_field (λ (x : Store). x.order) s refl));
      golden_sound = c.is_image_sound-2.ensures.sound c' (held s 0) (stands 0 (omega arith)) (shown 0 (omega arith)) ∙ sym (sound_counted s 0);
      program = program ∙ ap program_told (sym (counted_field (λ (x : Store). x.app) s refl));
      order = order ∙ sym (counted_field (λ (x : Store). x.order) s refl);
    }
