-- Events that are played one after the other.
use Rattle.std.proofs.Common.{◌≡◌, ◌∙◌, List, [], ◌∷◌, ◌++◌, length, ap, sym, subst, append_assoc, append-nil, Result, Ok, Err}
use Rattle.dg_drip_script.specs.Scripts.{DripItem, DripScript, with_items}
use Rattle.dg_drip_run.specs.inner.Playing.{PlayerStands, DripItemsPlayed}
use Rattle.dg_drip_run.specs.declared.player.Player.{Player}
use Rattle.dg_drip_run.specs.declared.player.PlayStop.{PlayStop}
use Rattle.dg_drip_run.specs.declared.player.PlayStop.TheVariants.{TooMany, Memory}

pub no_items : (s : DripScript) → with_items s [] ≡ s
no_items s = ap (λ (is : List DripItem). record s { items = is }) (append-nil s.items)

two_items : (s : DripScript) (xs ys : List DripItem) → with_items (with_items s xs) ys ≡ with_items s (xs ++ ys)
two_items s xs ys = ap (λ (is : List DripItem). record s { items = is }) (append_assoc s.items xs ys)

pub ran_none : (p : Player) → DripItemsPlayed (Ok tt) p p []
ran_none p = λ s before h. subst (λ (t : DripScript). PlayerStands p t before) (sym (no_items s)) h

-- events that were all played, and then others
pub ran_then : (r : Result (Unit {0}) PlayStop) (a b c : Player) (xs ys : List DripItem) → DripItemsPlayed (Ok tt) a b xs → DripItemsPlayed r b c ys → DripItemsPlayed r a c (xs ++ ys)
ran_then (Ok done) a b c xs ys h k = λ s before p. subst (λ (t : DripScript). PlayerStands c t before) (two_items s xs ys) (k (with_items s xs) before (h s before p))
ran_then (Err TooMany) a b c xs ys h k = λ s before p.
    let f = k (with_items s xs) before (h s before p) in
    record {
      front = xs ++ f.front;
      next = f.next;
      back = f.back;
      parts = ap (λ zs. xs ++ zs) f.parts ∙ sym (append_assoc xs f.front (f.next ∷ f.back));
      full = ap length (sym (append_assoc s.items xs f.front)) ∙ f.full;
      after = subst (λ (t : DripScript). PlayerStands c t before) (two_items s xs f.front) f.after;
    }
ran_then (Err Memory) a b c xs ys h k = tt

-- what stops playing some events stops playing more
pub ran_short : (e : PlayStop) (a b : Player) (xs ys : List DripItem) → DripItemsPlayed (Err e) a b xs → DripItemsPlayed (Err e) a b (xs ++ ys)
ran_short TooMany a b xs ys h = λ s before p.
    let f = h s before p in
    record {
      front = f.front;
      next = f.next;
      back = f.back ++ ys;
      parts = ap (λ zs. zs ++ ys) f.parts ∙ append_assoc f.front (f.next ∷ f.back) ys;
      full = f.full;
      after = f.after;
    }
ran_short Memory a b xs ys h = tt

pub ran_as : (r : Result (Unit {0}) PlayStop) (a b : Player) (xs ys : List DripItem) → xs ≡ ys → DripItemsPlayed r a b xs → DripItemsPlayed r a b ys
ran_as r a b xs ys e h = subst (λ (zs : List DripItem). DripItemsPlayed r a b zs) e h
