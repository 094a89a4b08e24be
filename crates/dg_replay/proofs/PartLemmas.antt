-- The parts of a round, one after another.
use Rattle.std.proofs.Common.{◌≡◌, ℕ, zero, suc, List, [], ◌∷◌, ◌++◌, replicate, refl, ap, ◌∙◌, append-nil, append_assoc}
use Rattle.dg_base.specs.declared.events.Event.{Event}
use Rattle.dg_object.specs.Sizes.{packets}
use Rattle.dg_rounds.specs.Rounds.{drain_ticks, advert_ticks, times, paced, passed, round}

times_each : {A : Type 0} (n : ℕ) (x : A) → times n (x ∷ []) ≡ replicate n x
unfolding times
times_each zero x = refl
times_each {A = A} (suc n) x = ap (λ (xs : List A). x ∷ xs) (times_each n x)

module _ (a b : ℕ) where
  abbrev drains : List Event
  drains = times drain_ticks (paced a ∷ [])

  abbrev other_drains : List Event
  other_drains = times drain_ticks (paced b ∷ [])

  abbrev adverts : List Event
  adverts = times advert_ticks (paced a ∷ [])

  abbrev request : List Event
  request = passed a b ∷ paced b ∷ passed b a ∷ []

  abbrev sent : List Event
  sent = times packets (paced a ∷ passed a b ∷ [])

  pub round_is : drains ++ (other_drains ++ (adverts ++ (request ++ sent))) ≡ round a b
  unfolding round
  round_is =
      ap (λ (xs : List Event). xs ++ (other_drains ++ (adverts ++ (request ++ sent)))) (times_each drain_ticks (paced a))
      ∙ ap (λ (xs : List Event). replicate drain_ticks (paced a) ++ (xs ++ (adverts ++ (request ++ sent)))) (times_each drain_ticks (paced b))
      ∙ ap (λ (xs : List Event). replicate drain_ticks (paced a) ++ (replicate drain_ticks (paced b) ++ (xs ++ (request ++ sent)))) (times_each advert_ticks (paced a))

  pub third_at : (drains ++ other_drains) ++ (adverts ++ (request ++ sent)) ≡ round a b
  third_at = append_assoc drains other_drains (adverts ++ (request ++ sent)) ∙ round_is

  pub fourth_at : ((drains ++ other_drains) ++ adverts) ++ (request ++ sent) ≡ round a b
  fourth_at = append_assoc (drains ++ other_drains) adverts (request ++ sent) ∙ third_at

  pub round_joined : (((drains ++ other_drains) ++ adverts) ++ request) ++ sent ≡ round a b
  round_joined = append_assoc ((drains ++ other_drains) ++ adverts) request sent ∙ fourth_at

  pub fifth_at : (((drains ++ other_drains) ++ adverts) ++ request) ++ (sent ++ []) ≡ round a b
  fifth_at = ap (λ (xs : List Event). (((drains ++ other_drains) ++ adverts) ++ request) ++ xs) (append-nil sent) ∙ round_joined
