use Rattle.std.proofs.Common.{◌≡◌, ℕ, true, sym, ap, subst, ◌∙◌, ⊎_elim}
use Rattle.std.proofs.lemmas.Bool.{cases_eq}
use Rattle.dg_object.specs.Object.{Outline}
use Rattle.dg_slot.specs.Jobs.{outline_of_slot}
use Rattle.dg_volume.specs.Store.{Store}
use Rattle.dg_volume.specs.Stands.{is_lent}
use Rattle.dg_volume.proofs.StoreLemmas.{one_store}
use Rattle.dg_chain.specs.Answers.{chained_slot}
use Rattle.dg_chain.specs.Receiving.{ReceivesDataPage}
use Rattle.dg_chain.specs.declared.sealing.ChainSealing.{ChainSealing}
use Rattle.dg_chain_tool.specs.inner.Filling.{fits_root, next_trail}
use Rattle.dg_slot.specs.Fits.{may_seal}
use Rattle.dg_volume.specs.Acts.{Acted, Stops}
use Rattle.dg_slot.specs.Layout.{page_operations}
use Rattle.dg_nor.specs.Trail.{stepping, resting}
use Rattle.dg_volume.specs.Changes.{paged}
use Rattle.dg_chain.specs.Receiving.{fill_operations}
use Rattle.std.proofs.Common.{false, refl}
use Rattle.dg_chain_tool.proofs.NextLemmas.{sealed_next, foreign_next, bad_next, stopped_next}
use Rattle.dg_chain_tool.proofs.filling.receive_next.Goals as goal

pub receive_page-requires : goal.receive_page-requires
receive_page-requires g c =
    let x = c.requires.fits in
    record { fits = (x.2.next.kept, c.in-Some.ensures.lends.1 _ x.0 x.2.next.kept x.1 x.2.next.held_here, x.2.next.more, x.2.data_page) }

pub returns-in-Ok-Sealed-clause-ends : goal.returns-in-Ok-Sealed-clause-ends
returns-in-Ok-Sealed-clause-ends g c = λ s mounted.
    let x = c.requires.fits in
    let h = x.2.next.kept in
    let here = c.in-Ok-Sealed in
    let a = g.N.Nor.device c.args.nor.now in
    let b = g.N.Nor.device c.receive_page.new.nor in
    let i = c.args.image in
    let page = c.args.page.now in
    let lends = c.in-Some.ensures.lends in
    let opened = lends.1 _ x.0 h x.1 x.2.next.held_here in
    let r = subst (λ (y : ChainSealing). ReceivesDataPage c.args.expected.now (outline_of_slot c.in-Some.slot).image h page a b y) here.field-0-is (here.ensures.received h opened) in
    let same = ap (λ (y : ChainSealing). (outline_of_slot (chained_slot y)).image) (sym here.field-0-is) ∙ ap (λ (p : Outline). p.image) here.ensures.same ∙ lends.0 in
    let done = sealed_next a b c.args.volume.now c.slot.new.self c.put_back.new.self x.0 i h c.args.expected.now page c.in-Some.slot c.requires.not_golden c.requires.known_image x.2.next.held_here lends.0 c.receive_page.ensures.touches x.1 (c.slot.ensures.mounted a.image x.0 x.1) opened
    here.slot here._next same r (λ t k but there opens. c.put_back.ensures.mounted b.image t k but there opens) in
    subst (λ (t : Store). (fits_root c.args.expected.now page ≡ true) × Acted (stepping t page_operations (paged i page t)) a b c.put_back.new.self) (sym (one_store a.image s x.0 mounted.stands x.1.stands)) done

pub returns-in-Ok-Sealed-clause-lent : goal.returns-in-Ok-Sealed-clause-lent
returns-in-Ok-Sealed-clause-lent g c = λ i.
    let here = c.in-Ok-Sealed in
    let image = ap (λ (y : ChainSealing). (outline_of_slot (chained_slot y)).image) (sym here.field-0-is) ∙ ap (λ (p : Outline). p.image) here.ensures.same ∙ c.in-Some.ensures.lends.0 in
    ⊎_elim
    (λ e. ap (is_lent c.put_back.new.self) (e ∙ sym image) ∙ c.put_back.ensures.back ∙ sym c.requires.not_lent ∙ ap (is_lent c.args.volume.now) (sym e))
    (λ other. c.put_back.ensures.others i (λ e. other (e ∙ image)) ∙ c.slot.ensures.others i other)
    (cases_eq i c.args.image)

pub returns-in-Ok-Foreign-clause-ends : goal.returns-in-Ok-Foreign-clause-ends
returns-in-Ok-Foreign-clause-ends g c = λ s mounted.
    let x = c.requires.fits in
    let h = x.2.next.kept in
    let here = c.in-Ok-Foreign in
    let a = g.N.Nor.device c.args.nor.now in
    let b = g.N.Nor.device c.receive_page.new.nor in
    let i = c.args.image in
    let page = c.args.page.now in
    let lends = c.in-Some.ensures.lends in
    let opened = lends.1 _ x.0 h x.1 x.2.next.held_here in
    let r = subst (λ (y : ChainSealing). ReceivesDataPage c.args.expected.now (outline_of_slot c.in-Some.slot).image h page a b y) here.field-0-is (here.ensures.received h opened) in
    let same = ap (λ (y : ChainSealing). (outline_of_slot (chained_slot y)).image) (sym here.field-0-is) ∙ ap (λ (p : Outline). p.image) here.ensures.same ∙ lends.0 in
    let back = c.put_back-in-Ok-Foreign in
    let done = foreign_next a b c.args.volume.now c.slot.new.self back.new.self x.0 i h c.args.expected.now page c.in-Some.slot c.requires.not_golden c.requires.known_image x.2.next.held_here lends.0 c.receive_page.ensures.touches x.1 (c.slot.ensures.mounted a.image x.0 x.1) opened
    here.slot here._found same r (λ t k but there opens. back.ensures.mounted b.image t k but there opens) in
    let moved = subst (λ (t : Store). (fits_root c.args.expected.now page ≡ false) × Acted (resting t fill_operations) a b back.new.self) (sym (one_store a.image s x.0 mounted.stands x.1.stands)) done in
    (refl, moved.0, moved.1)

pub returns-in-Ok-Bad-clause-ends : goal.returns-in-Ok-Bad-clause-ends
returns-in-Ok-Bad-clause-ends g c = λ s mounted.
    let x = c.requires.fits in
    let h = x.2.next.kept in
    let here = c.in-Ok-Bad in
    let a = g.N.Nor.device c.args.nor.now in
    let b = g.N.Nor.device c.receive_page.new.nor in
    let page = c.args.page.now in
    let lends = c.in-Some.ensures.lends in
    let opened = lends.1 _ x.0 h x.1 x.2.next.held_here in
    let r = subst (λ (y : ChainSealing). ReceivesDataPage c.args.expected.now (outline_of_slot c.in-Some.slot).image h page a b y) here.field-0-is (here.ensures.received h opened) in
    let halted = subst (λ (n : ℕ). may_seal n h page ≡ true) (sym lends.0) x.2.next.fits in
    absurd (bad_next a b c.args.volume.now c.slot.new.self c.slot.new.self x.0 c.args.image h c.args.expected.now page c.in-Some.slot c.requires.not_golden c.requires.known_image x.2.next.held_here lends.0 c.receive_page.ensures.touches x.1 (c.slot.ensures.mounted a.image x.0 x.1) opened here.slot here._kept here._found halted r)

pub returns-in-Err-clause-ends : goal.returns-in-Err-clause-ends
returns-in-Err-clause-ends g c = λ s mounted.
    let x = c.requires.fits in
    let h = x.2.next.kept in
    let a = g.N.Nor.device c.args.nor.now in
    let b = g.N.Nor.device c.receive_page.new.nor in
    let i = c.args.image in
    let page = c.args.page.now in
    let lends = c.in-Some.ensures.lends in
    let opened = lends.1 _ x.0 h x.1 x.2.next.held_here in
    let halted = subst (λ (n : ℕ). may_seal n h page ≡ true) (sym lends.0) x.2.next.fits in
    let done = stopped_next a b c.args.volume.now c.slot.new.self c.slot.new.self x.0 i h c.args.expected.now page c.in-Some.slot c.requires.not_golden c.requires.known_image x.2.next.held_here lends.0 c.receive_page.ensures.touches x.1 (c.slot.ensures.mounted a.image x.0 x.1) opened halted (c.in-Err.ensures.stopped h opened) in
    subst (λ (t : Store). Stops (next_trail (fits_root c.args.expected.now page) t i page) a b) (sym (one_store a.image s x.0 mounted.stands x.1.stands)) done
