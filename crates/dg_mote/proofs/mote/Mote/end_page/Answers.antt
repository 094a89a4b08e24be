use Rattle.std.proofs.Common.{◌≡◌, ◌≢◌, ℕ, false, sym, ap, subst, ◌∙◌}
use Rattle.dg_nor.specs.Trail.{Trail}
use Rattle.dg_nor.proofs.DeviceLemmas.{OnErr_from}
use Rattle.dg_slot.specs.Jobs.{page_from}
use Rattle.dg_volume.specs.Store.{Store}
use Rattle.dg_volume.specs.Stands.{is_lent}
use Rattle.dg_volume.specs.Acts.{Stops}
use Rattle.dg_mote.specs.Motes.{Done}
use Rattle.dg_mote.specs.Hearing.{page_ends}
use Rattle.dg_mote.specs.declared.mote.Heard.TheVariants as heard
use Rattle.dg_mote.specs.declared.mote.Mode.{Mode as ModeValue}
use Rattle.dg_mote.proofs.FillLemmas.{ends_trail, whole_fills, page_done}
use Rattle.dg_mote.proofs.mote.Mote.end_page.Goals as goal

pub returns-in_err-seal-clause-stopped : goal.returns-in_err-seal-clause-stopped
returns-in_err-seal-clause-stopped g c = OnErr_from c.from_residual.result (λ m s r h ps whole.
    let x = c.in-Receive in
    let a = g.N.Nor.device c.args.nor.now in
    let b = g.N.Nor.device c.seal.new.nor in
    let fills = whole_fills a.image c.args.self.now m s r h ps x.version x.server x.asking x.job whole (sym c.replace.ensures.value ∙ x.is) in
    subst (λ (t : Trail Store). Stops t a b) (sym (ends_trail m r h s c.args.now c.args.word (page_from ps))) (c.in_err-seal.ensures.stopped s r.image h ps whole.mounted fills))

pub returns-then-branch-clause-done : goal.returns-then-branch-clause-done
returns-then-branch-clause-done g c m s r h ps whole =
    let x = c.in-Receive in
    let a = g.N.Nor.device c.args.nor.now in
    let b = g.N.Nor.device c.seal.new.nor in
    let v = c.args.self.now in
    let w = c.seal.new.volume in
    let fills = whole_fills a.image v m s r h ps x.version x.server x.asking x.job whole (sym c.replace.ensures.value ∙ x.is) in
    let sealed = c.in_ok-seal.ensures.sealed s r.image h ps whole.mounted fills in
    let fits = sym c.if-branch.true ∙ sealed.0 in
    let image = c.image-image.ensures ∙ fills.of_image in
    let page = c.page-page.ensures ∙ fills.stands.slot.opens.done ∙ whole.next in
    let back = subst (λ (n : ℕ). is_lent w n ≡ false) fills.of_image c.in_ok-seal.ensures.back in
    let others = subst (λ (n : ℕ). (i : ℕ) → i ≢ n → is_lent w i ≡ is_lent v.volume i) fills.of_image (λ i other. c.in_ok-seal.ensures.others i other) in
    let done = page_done a b v w m s r h ps c.args.now c.args.word c.new.result _ (heard.Sealed c.image-image.result c.page-page.result) whole (record { fits_is = fits; acted = sealed.1 }) c.new.ensures.value back others
    (ap (λ (n : ℕ). heard.Sealed n c.page-page.result) image ∙ ap (λ (n : ℕ). heard.Sealed r.image n) page) in
    subst (λ (y : ModeValue). Done (page_ends m r h s c.args.now c.args.word (page_from ps)) a b (record v { volume = w; mode = y }) (heard.Sealed c.image-image.result c.page-page.result)) (sym c.replace.ensures.after) done

pub returns-else-branch-clause-done : goal.returns-else-branch-clause-done
returns-else-branch-clause-done g c m s r h ps whole =
    let x = c.in-Receive in
    let a = g.N.Nor.device c.args.nor.now in
    let b = g.N.Nor.device c.seal.new.nor in
    let v = c.args.self.now in
    let w = c.seal.new.volume in
    let fills = whole_fills a.image v m s r h ps x.version x.server x.asking x.job whole (sym c.replace.ensures.value ∙ x.is) in
    let sealed = c.in_ok-seal.ensures.sealed s r.image h ps whole.mounted fills in
    let fits = sym c.if-branch.false ∙ sealed.0 in
    let image = c.image-image.ensures ∙ fills.of_image in
    let page = c.page-page.ensures ∙ fills.stands.slot.opens.done ∙ whole.next in
    let back = subst (λ (n : ℕ). is_lent w n ≡ false) fills.of_image c.in_ok-seal.ensures.back in
    let others = subst (λ (n : ℕ). (i : ℕ) → i ≢ n → is_lent w i ≡ is_lent v.volume i) fills.of_image (λ i other. c.in_ok-seal.ensures.others i other) in
    let done = page_done a b v w m s r h ps c.args.now c.args.word c.new.result _ (heard.Bad c.image-image.result c.page-page.result) whole (record { fits_is = fits; acted = sealed.1 }) c.new.ensures.value back others
    (ap (λ (n : ℕ). heard.Bad n c.page-page.result) image ∙ ap (λ (n : ℕ). heard.Bad r.image n) page) in
    subst (λ (y : ModeValue). Done (page_ends m r h s c.args.now c.args.word (page_from ps)) a b (record v { volume = w; mode = y }) (heard.Bad c.image-image.result c.page-page.result)) (sym c.replace.ensures.after) done
