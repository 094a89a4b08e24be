use Rattle.std.proofs.Common.{◌≡◌, ◌<◌, ◌≤◌, ◌^◌, ℕ, List, ap, sym, subst, ◌∙◌, inl, inr, arith}
use Rattle.std.proofs.lemmas.Bool.{false≢true}
use Rattle.dg_slot.specs.Header.{header_bytes}
use Rattle.dg_breaks.specs.Bytes.{said_pages, said_crc}
use Rattle.dg_breaks.proofs.ByteLemmas.{spelled_fit, spelled_pages}
use Rattle.dg_breaks.proofs.unfit.spelled_bytes.Goals as goal
use Rattle.dg_breaks.proofs.unfit.spelled_bytes.Goals.{else-equal-gt-PAGES_AT-via-then-equal-gt-PAGES_AT+else-not-is_page_count, else-equal-gt-PAGES_AT-via-else-equal-gt-PAGES_AT}

pub returns-then-not-is_page_count-clause-fit : goal.returns-then-not-is_page_count-clause-fit
returns-then-not-is_page_count-clause-fit c =
    let first = c.args.first.now in
    let told : c.header_bytes.result ≡ header_bytes c.args.image c.args.version (said_pages first) (said_crc first) = c.header_bytes.ensures ∙ ap (λ (k : ℕ). header_bytes c.args.image c.args.version (said_pages first) k) c.from_be_bytes.ensures in
    spelled_pages first c.header_bytes.result c.args.image c.args.version c.equal_bytes-equal.result told c.equal_bytes-equal.ensures.fit (omega arith)
    (λ p. false≢true (sym c.if-not-is_page_count.true ∙ c.is_page_count.ensures.1 p))

pub returns-clause-fit : goal.returns-clause-fit
returns-clause-fit c =
    let first = c.args.first.now in
    let told : c.header_bytes.result ≡ header_bytes c.args.image c.args.version (said_pages first) (said_crc first) = c.header_bytes.ensures ∙ ap (λ (k : ℕ). header_bytes c.args.image c.args.version (said_pages first) k) c.from_be_bytes.ensures in
    spelled_fit first c.header_bytes.result c.args.image c.args.version c.equal_bytes-equal.result (omega arith) told c.equal_bytes-equal.ensures.fit
    (elim c.else-equal-gt-PAGES_AT.branch [
      | else-equal-gt-PAGES_AT-via-then-equal-gt-PAGES_AT+else-not-is_page_count w ↦ inr (w.is_page_count.ensures.0 w.if-not-is_page_count.false)
      | else-equal-gt-PAGES_AT-via-else-equal-gt-PAGES_AT w ↦ inl (omega arith)
    ])

pub returns-clause-whole : goal.returns-clause-whole
returns-clause-whole c = λ whole.
    let first = c.args.first.now in
    let told : c.header_bytes.result ≡ header_bytes c.args.image c.args.version (said_pages first) (said_crc first) = c.header_bytes.ensures ∙ ap (λ (k : ℕ). header_bytes c.args.image c.args.version (said_pages first) k) c.from_be_bytes.ensures in
    c.equal_bytes-equal.ensures.whole (omega arith) ∙ told

pub returns-clause-fewest : goal.returns-clause-fewest
returns-clause-fewest c = λ whole. elim c.else-equal-gt-PAGES_AT.branch [
  | else-equal-gt-PAGES_AT-via-then-equal-gt-PAGES_AT+else-not-is_page_count w ↦ (w.is_page_count.ensures.0 w.if-not-is_page_count.false).0
  | else-equal-gt-PAGES_AT-via-else-equal-gt-PAGES_AT w ↦ omega arith
]

pub returns-clause-most : goal.returns-clause-most
returns-clause-most c = λ whole. elim c.else-equal-gt-PAGES_AT.branch [
  | else-equal-gt-PAGES_AT-via-then-equal-gt-PAGES_AT+else-not-is_page_count w ↦ (w.is_page_count.ensures.0 w.if-not-is_page_count.false).1
  | else-equal-gt-PAGES_AT-via-else-equal-gt-PAGES_AT w ↦ omega arith
]

pub returns-then-not-is_page_count-clause-small : goal.returns-then-not-is_page_count-clause-small
returns-then-not-is_page_count-clause-small c = subst (λ (k : ℕ). k < 2 ^ 16) c.from_be_bytes.ensures (omega (arith, c.from_be_bytes.type_inv))

pub returns-clause-small : goal.returns-clause-small
returns-clause-small c = subst (λ (k : ℕ). k < 2 ^ 16) c.from_be_bytes.ensures (omega (arith, c.from_be_bytes.type_inv))
