use Rattle.std.proofs.Common.{◌≡◌, ◌+◌, ℕ, Bool, true, false, not, ◌&&◌, eqb, ltb, refl, sym, ap, ◌∙◌, arith}
use Rattle.std.proofs.lemmas.Bool.{ltb-true, lt-ltb}
use Rattle.std.proofs.lemmas.Bool.Decides.{nat_tests}
use Rattle.std.specs.FinSet as set
use Rattle.dg_bits.specs.Sets.{below}
use Rattle.dg_bits.proofs.SetLaws.{same_numbers, contains-below, contains-without, contains-less}
use Rattle.dg_object.specs.Sizes.{packets}
use Rattle.dg_recv.proofs.without.Goals as goal
use Rattle.dg_recv.proofs.without.Goals.{then-has, else-has}

none_taken : (q : ℕ) (page known : Bool) → page ≡ (page && not (ltb q 0 && known))
none_taken q page known = grind (arith, nat_tests)

-- one more packet was checked, and was there, or was missing
taken : (q k : ℕ) (page known : Bool) → (q ≡ k → known ≡ true) → (not (eqb q k) && (page && not (ltb q k && known))) ≡ (page && not (ltb q (k + 1) && known))
taken q k page known here = grind (arith, nat_tests)

kept : (q k : ℕ) (page known : Bool) → (q ≡ k → known ≡ false) → (page && not (ltb q k && known)) ≡ (page && not (ltb q (k + 1) && known))
kept q k page known here = grind (arith, nat_tests)

-- all were checked
all_taken : (q k : ℕ) (page known : Bool) → (page ≡ true → ltb q k ≡ true) → (page && not (ltb q k && known)) ≡ (page && not known)
all_taken q k true known past = ap (λ b. not (b && known)) (past refl)
all_taken q k false known past = refl

pub loop-packet-init : goal.loop-packet-init
loop-packet-init c = λ q.
    ap (λ s. set.contains s q) c.all-want.ensures ∙ contains-below packets q ∙ none_taken q (ltb q packets) (set.contains c.args.got.now q)

pub loop-packet-preserved : goal.loop-packet-preserved
loop-packet-preserved c = λ q.
    let page = ltb q packets in
    let known = set.contains c.args.got.now q in
    elim c.if-has.branch [
      | then-has w ↦
          ap (λ s. set.contains s q) (w.want-is ∙ w.clear.ensures)
          ∙ contains-without c.loop-packet.want c.loop-packet.packet q
          ∙ ap (λ b. not (eqb q c.loop-packet.packet) && b) (c.loop-packet.invariant q)
          ∙ taken q c.loop-packet.packet page known (λ e. ap (set.contains c.args.got.now) e ∙ sym c.has.ensures.value ∙ w.if-has.true)
      | else-has w ↦
          ap (λ s. set.contains s q) w.want-is
          ∙ c.loop-packet.invariant q
          ∙ kept q c.loop-packet.packet page known (λ e. ap (set.contains c.args.got.now) e ∙ sym c.has.ensures.value ∙ w.if-has.false)
    ]

pub returns : goal.returns
returns c =
    same_numbers _ _ (λ q.
    c.loop-packet.invariant q
    ∙ all_taken q c.loop-packet.packet (ltb q packets) (set.contains c.args.got.now q) (λ e. lt-ltb q c.loop-packet.packet (omega (arith, ltb-true q packets e, c.loop-packet-test.false)))
    ∙ ap (λ b. b && not (set.contains c.args.got.now q)) (sym (contains-below packets q))
    ∙ sym (contains-less (below packets) c.args.got.now q))
