use Rattle.std.proofs.Common.{◌≡◌, ◌<◌, ◌≤◌, ◌^◌, ℕ, List, length, take, get_or, refl, sym, ap, subst, ◌∙◌, arith}
use Rattle.std.specs.Prelude.{unwrap_or}
use Rattle.std.proofs.lemmas.Bool.{false≢true}
use Rattle.dg_object.specs.Sizes.{most_bytes}
use Rattle.dg_object.specs.Object.{pages_for}
use Rattle.dg_object.specs.Records.{details_of}
use Rattle.dg_breaks.specs.Bytes.{front_of, said_length}
use Rattle.dg_breaks.proofs.ByteLemmas.{front_fit, head_fit, head_is}
use Rattle.dg_breaks.proofs.unfit.head_bytes.Goals as goal

pub returns-then-equal-lt-LENGTH_AT-clause-fit : goal.returns-then-equal-lt-LENGTH_AT-clause-fit
returns-then-equal-lt-LENGTH_AT-clause-fit c =
    let head = c.args.head.now in
    let told : c.front_of-front.result ≡ front_of c.args.image c.args.version (unwrap_or c.args.pages (get_or head 3 0)) = c.front_of-front.ensures ∙ ap (front_of c.args.image c.args.version) c.unwrap_or.ensures in
    front_fit head _ c.front_of-front.result c.args.image c.args.version c.args.pages c.equal_bytes-equal.result refl (omega arith) told c.equal_bytes-equal.ensures.fit (omega arith)

pub returns-then-not-is_length_of-clause-fit : goal.returns-then-not-is_length_of-clause-fit
returns-then-not-is_length_of-clause-fit c =
    let head = c.args.head.now in
    let told : c.front_of-front.result ≡ front_of c.args.image c.args.version (unwrap_or c.args.pages (get_or head 3 0)) = c.front_of-front.ensures ∙ ap (front_of c.args.image c.args.version) c.unwrap_or.ensures in
    let P : ℕ → Type 0 = λ x. (1 ≤ x) × (x ≤ most_bytes) × (get_or head 3 0 ≡ pages_for x) in
    head_fit head c.args.image c.args.version c.args.pages 8 (c.equal_bytes-equal.ensures.whole (omega arith) ∙ told) (omega arith) (λ low. absurd (omega arith)) (λ low. absurd (omega arith))
    (λ low fits. false≢true (sym c.if-not-is_length_of.true ∙ c.is_length_of.ensures.1 (subst P (sym c.said_length.ensures) (fits.some refl, fits.most refl, fits.count refl))))

pub returns-in-Ok-clause-fit : goal.returns-in-Ok-clause-fit
returns-in-Ok-clause-fit c =
    let head = c.args.head.now in
    let told : c.front_of-front.result ≡ front_of c.args.image c.args.version (unwrap_or c.args.pages (get_or head 3 0)) = c.front_of-front.ensures ∙ ap (front_of c.args.image c.args.version) c.unwrap_or.ensures in
    let P : ℕ → Type 0 = λ x. (1 ≤ x) × (x ≤ most_bytes) × (get_or head 3 0 ≡ pages_for x) in
    let counted = subst P c.said_length.ensures (c.is_length_of.ensures.0 c.if-not-is_length_of.false) in
    head_fit head c.args.image c.args.version c.args.pages 28 (c.equal_bytes-equal.ensures.whole (omega arith) ∙ told) (omega arith) (λ _. counted) (λ _. (_, c.in-Ok.ensures.ok)) (λ low. absurd (omega arith))

pub returns-in-Ok-clause-whole : goal.returns-in-Ok-clause-whole
returns-in-Ok-clause-whole c = λ _.
    let head = c.args.head.now in
    let told : c.front_of-front.result ≡ front_of c.args.image c.args.version (unwrap_or c.args.pages (get_or head 3 0)) = c.front_of-front.ensures ∙ ap (front_of c.args.image c.args.version) c.unwrap_or.ensures in
    head_is head c.args.image c.args.version c.args.pages _ (omega arith) (c.equal_bytes-equal.ensures.whole (omega arith) ∙ told) c.in-Ok.ensures.ok

pub returns-in-Err-clause-fit : goal.returns-in-Err-clause-fit
returns-in-Err-clause-fit c =
    let head = c.args.head.now in
    let told : c.front_of-front.result ≡ front_of c.args.image c.args.version (unwrap_or c.args.pages (get_or head 3 0)) = c.front_of-front.ensures ∙ ap (front_of c.args.image c.args.version) c.unwrap_or.ensures in
    let P : ℕ → Type 0 = λ x. (1 ≤ x) × (x ≤ most_bytes) × (get_or head 3 0 ≡ pages_for x) in
    let counted = subst P c.said_length.ensures (c.is_length_of.ensures.0 c.if-not-is_length_of.false) in
    head_fit head c.args.image c.args.version c.args.pages 12 (c.equal_bytes-equal.ensures.whole (omega arith) ∙ told) (omega arith) (λ _. counted) (λ low. absurd (omega arith))
    (λ low fits. let named = fits.name refl in c.in-Err.ensures.found named.0 named.1)
