use Rattle.std.proofs.Common.{◌≡◌, ℕ, ◌+◌, ◌*◌, Bool, true, length, eqb, refl, sym, ap, subst, ◌∙◌, arith, rules, below_more}
use Rattle.std.specs.Prelude.{◌||◌}
use Rattle.std.specs.FinSet as set
use Rattle.std.proofs.lemmas.Bool.{eq-eqb, ne_eqb, or_right}
use Rattle.dg_bits.proofs.SetLaws.{contains-none, contains-put}
use Rattle.dg_nor.specs.Chip.{Touches, sector, programmed}
use Rattle.dg_nor.proofs.ChipLemmas.{Touches-same, Touches_then}
use Rattle.dg_nor.proofs.DeviceLemmas.{OnErr_from, Ran-none, Ran_then}
use Rattle.dg_words.specs.Cells.{AreBytes}
use Rattle.dg_words.proofs.CellLemmas.{between-part, length-part}
use Rattle.dg_slot.specs.Layout.{packets, packet_size}
use Rattle.dg_slot.specs.Jobs.{IsJob, Packets, got_of_job, sector_of}
use Rattle.dg_slot.proofs.JobLemmas.{job_put, same_sector}
use Rattle.dg_slot.proofs.SlotLemmas.{open_stays}
use Rattle.dg_slot.proofs.FillLemmas.{packet_of, AreBytes-packet, first_packets, first_none, first_more, first_all, halted_among}
use Rattle.dg_slot.proofs.states.PageJob.put_all.Goals as goal

pub loop-packet-init : goal.loop-packet-init
loop-packet-init g c = record {
  put = λ h job. subst (IsJob (g.N.Nor.device c.args.nor.now).image c.args.self.now h) (first_none c.args.page.now) job;
  got = λ q h. absurd (omega arith);
  missing = λ q h. ap (λ s. set.contains s q) c.requires ∙ contains-none q;
  same_slot = refl;
  index = c.page_sector-index.ensures;
  ran = Ran-none _;
  kept = λ h is. is;
  references = refl;
  touches = Touches-same _ _ _ _ refl;
}

pub returns-in_err-program_in-clause-stopped : goal.returns-in_err-program_in-clause-stopped
returns-in_err-program_in-clause-stopped g c =
    OnErr_from c.from_residual.result (halted_among c.loop-packet.packet packets _ _ _ (omega (arith, c.loop-packet-test.true)) c.loop-packet.invariant.ran (c.in_err-program_in.ensures.stopped (omega arith)))

pub loop-packet-preserved : goal.loop-packet-preserved
loop-packet-preserved g c =
    let before = c.loop-packet.invariant in
    let k = c.loop-packet.self in
    let n = c.loop-packet.packet in
    let page = c.args.page.now in
    let mid = (g.N.Nor.device c.loop-packet.nor).image in
    let new = (g.N.Nor.device c.program_in.new.nor).image in
    let index : c.page_sector-index.result ≡ sector_of k = before.index ∙ sym (same_sector k c.args.self.now before.same_slot) in
    let touches = subst (λ (s : ℕ). Touches s (s + 1) mid new) index c.program_in.ensures.touches in
    let bytes = between-part page (packet_size * n) (packet_size * n + packet_size) packet_size (omega arith) in
    let there : sector new (sector_of k) ≡ programmed (sector mid (sector_of k)) (packet_size * n) (packet_of page n) = subst (λ (s : ℕ). sector new s ≡ programmed (sector mid s) (packet_size * n) (packet_of page n)) index
    ((rw c.from-offset.ensures at c.in_ok-program_in.ensures.cells) ∙ ap (programmed (sector mid c.page_sector-index.result) (packet_size * n)) bytes) in
    let got : c.set.new.self ≡ set.insert (got_of_job k) n = c.set.ensures in
    let page_bytes : AreBytes page = λ i. search rules in
    let small = AreBytes-packet page n page_bytes in
    let long : length (packet_of page n) ≡ packet_size = length-part page (packet_size * n) packet_size (omega arith) in
    let chip = g.met.N.Nor.is_chip c.loop-packet.nor in
    let here : (q : ℕ) → set.contains c.set.new.self q ≡ (eqb q n || set.contains (got_of_job k) q) = λ q. ap (λ s. set.contains s q) got ∙ contains-put (got_of_job k) n q in
    record {
      put = λ h job. subst (IsJob new _ h) (first_more page n) (job_put mid new k _ h (first_packets page n) n (packet_of page n) chip.cells (omega arith) (omega arith) (omega arith) (before.missing n (omega arith)) small long touches there refl got (before.put h job));
      got = below_more _ _
          (λ q h. here q ∙ ap (λ (b : Bool). eqb q n || b) (before.got q h) ∙ or_right (eqb q n) true refl)
          (here n ∙ ap (λ (b : Bool). b || set.contains (got_of_job k) n) (eq-eqb n n refl));
      missing = λ q h. here q ∙ ap (λ (b : Bool). b || set.contains (got_of_job k) q) (ne_eqb q n (omega arith)) ∙ before.missing q (omega arith);
      same_slot = before.same_slot;
      index = before.index;
      ran = Ran_then before.ran (c.in_ok-program_in.ensures.ran (omega arith));
      kept = λ h is. open_stays mid new c.args.self.now.slot h (omega arith) (omega arith) (subst (λ (s : ℕ). Touches s (s + 1) mid new) before.index c.program_in.ensures.touches) (before.kept h is);
      references = (c.in_ok-program_in.ensures.ran (omega arith)).references ∙ before.references;
      touches = Touches_then before.touches (subst (λ (s : ℕ). Touches s (s + 1) mid new) before.index c.program_in.ensures.touches);
    }

pub returns-clause-put : goal.returns-clause-put
returns-clause-put g c h job =
    let end : c.loop-packet.packet ≡ packets = omega (arith, c.loop-packet-test.false, c.loop-packet.auto.packet-end) in
    let new = (g.N.Nor.device c.loop-packet.nor).image in
    let there = subst (λ (n : ℕ). IsJob new c.loop-packet.self h (first_packets c.args.page.now n)) end (c.loop-packet.invariant.put h job) in
    subst (λ (ps : Packets). IsJob new c.loop-packet.self h ps) (first_all c.args.page.now) there

pub returns-in_err-program_in-clause-kept : goal.returns-in_err-program_in-clause-kept
returns-in_err-program_in-clause-kept g c h is =
    let before = c.loop-packet.invariant in
    let mid = (g.N.Nor.device c.loop-packet.nor).image in
    let new = (g.N.Nor.device c.program_in.new.nor).image in
    let touches = subst (λ (s : ℕ). Touches s (s + 1) mid new) before.index c.program_in.ensures.touches in
    open_stays mid new c.args.self.now.slot h (omega arith) (omega arith) touches (before.kept h is)
