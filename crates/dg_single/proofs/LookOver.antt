-- How a look that heard nothing ends, over any boards.
use Rattle.std.proofs.Common.{◌≡◌, ℕ, List, [], ◌∷◌, set, sym, subst}
use Rattle.std.specs.Prelude.{Bool, slice_get, Some, Result, Ok, Err, IsErrAnd}
use Rattle.dg_nor.specs.Device.{Device}
use Rattle.dg_serve.specs.Services.{Looks}
use Rattle.dg_serve.specs.Standings.{Standing, ServedParts, PartsHalted, PartsGoOn, stretch}
use Rattle.dg_serve.specs.declared.stop.Stop.{Stop}
use Rattle.dg_single.specs.Overs.{over, went_so}
use Rattle.dg_single.proofs.PlaceLemmas.{put_same}

pub look_exit : (motes mote : ℕ) (links : List (ℕ × ℕ)) (p q : Standing) (r : Result Bool Stop) (why : Stop) → IsErrAnd r (λ e. e ≡ why) → PartsHalted why motes motes links (Looks mote ∷ []) p q → PartsGoOn (went_so r) motes links (stretch motes motes (Looks mote ∷ [])) p q
look_exit motes mote links p q (Ok u) why is h = absurd is
look_exit motes mote links p q (Err e) why is h = subst (λ (w : Stop). PartsHalted w motes motes links (Looks mote ∷ []) p q) (sym is) h

-- the board is unchanged
pub halts_over : (motes mote : ℕ) (links : List (ℕ × ℕ)) (p : Standing) (boards : List Device) (d : Device) → slice_get boards mote ≡ Some d → (q : Standing) (why : Stop) → PartsHalted why motes motes links (Looks mote ∷ []) p (over q boards) → PartsHalted why motes motes links (Looks mote ∷ []) p (over q (set boards mote d))
halts_over motes mote links p boards d was q why h = subst (λ bs. PartsHalted why motes motes links (Looks mote ∷ []) p (over q bs)) (sym (put_same boards mote d was)) h

pub none_over : (motes mote : ℕ) (links : List (ℕ × ℕ)) (p : Standing) (boards : List Device) (d : Device) → slice_get boards mote ≡ Some d → (q : Standing) → ServedParts motes motes motes links (Looks mote ∷ []) p (over q boards) → ServedParts motes motes motes links (Looks mote ∷ []) p (over q (set boards mote d))
none_over motes mote links p boards d was q h = subst (λ bs. ServedParts motes motes motes links (Looks mote ∷ []) p (over q bs)) (sym (put_same boards mote d was)) h
