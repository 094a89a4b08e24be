use Rattle.std.proofs.Common.{◌≡◌, ℕ, Bool, true, eqb, refl, ap, ◌∙◌, arith, below_more}
use Rattle.std.specs.Prelude.{◌||◌}
use Rattle.std.specs.FinSet as set
use Rattle.std.proofs.lemmas.Bool.{eq-eqb, ne_eqb, or_right}
use Rattle.dg_bits.proofs.SetLaws.{contains-none, contains-put}
use Rattle.dg_slot.specs.Jobs.{got_of_job}
use Rattle.part_stream.proofs.receiving.receive_page.Goals as goal

pub loop-packet-init : goal.loop-packet-init
loop-packet-init g c = record {
  got = λ q h. absurd (omega arith);
  missing = λ q h. ap (λ s. set.contains s q) c.in_ok-job.ensures.same.1 ∙ contains-none q;
  same_slot = c.in_ok-job.ensures.same.0;
}

pub loop-packet-preserved : goal.loop-packet-preserved
loop-packet-preserved g c =
    let before = c.loop-packet.invariant in
    let done = c.in_ok-put-in-Some.ensures in
    let n = c.loop-packet.packet in
    let got = got_of_job c.loop-packet.job in
    let here : (q : ℕ) → set.contains (got_of_job c.put.new.self) q ≡ (eqb q n || set.contains got q) = λ q. ap (λ s. set.contains s q) done.got ∙ contains-put got n q in
    record {
      got = below_more _ _
          (λ q h. here q ∙ ap (λ (b : Bool). eqb q n || b) (before.got q h) ∙ or_right (eqb q n) true refl)
          (here n ∙ ap (λ (b : Bool). b || set.contains got n) (eq-eqb n n refl));
      missing = λ q h. here q ∙ ap (λ (b : Bool). b || set.contains got q) (ne_eqb q n (omega arith)) ∙ before.missing q (omega arith);
      same_slot = done.same_slot ∙ before.same_slot;
    }
