-- A service that is opened.
use Rattle.std.proofs.Common.{◌≡◌, ℕ, zero, suc, ◌+◌, List, [], ◌∷◌, ◌++◌, length, take, add-one, refl, ap, sym, ◌∙◌, subst, arith, inr}
use Rattle.std.specs.Prelude.{slice_index_or, replicate, Option, None, Result, Ok, Err, IsErrAnd}
use Rattle.std.proofs.lemmas.List.{take_all}
use Rattle.dg_base.specs.Outside.{Puts, PutsPrefix}
use Rattle.dg_netcfg.specs.declared.profile.NetProfile.{NetProfile}
use Rattle.dg_node.specs.declared.node.Node.{Node}
use Rattle.dg_serve.specs.Traces.{lines_text, head_lines}
use Rattle.dg_outside.specs.Outside.{Outside}
use Rattle.dg_end.specs.Lines.{status_of}
use Rattle.dg_serve.specs.Endings.{end_of_stop}
use Rattle.dg_serve.specs.Served.{Hindered}
use Rattle.dg_serve.specs.Ran.{ServiceOpens, OpensLink}
use Rattle.dg_serve.specs.declared.service.Service.{Service}
use Rattle.dg_serve.specs.declared.stop.Stop.{Stop}
use Rattle.dg_serve.specs.declared.stop.Stop.TheVariants as stop
use Rattle.dg_serve.proofs.TurnLemmas.{puts_none}

-- ---- motes that are off

one_next : {X : Type 0} (x : X) (n : ℕ) → replicate n x ++ x ∷ [] ≡ replicate (suc n) x
one_next x zero = refl
one_next x (suc n) = ap (λ xs. x ∷ xs) (one_next x n)

pub one_more : {X : Type 0} (x : X) (n : ℕ) → replicate n x ++ x ∷ [] ≡ replicate (n + 1) x
one_more x n = one_next x n ∙ ap (λ k. replicate k x) (sym (add-one n))

pub one_in : {X : Type 0} (x : X) (n m : ℕ) → slice_index_or (replicate n x) m x ≡ x
one_in x zero m = refl
one_in x (suc n) zero = refl
one_in x (suc n) (suc m) = one_in x n m

pub many_in : {X : Type 0} (x : X) (n : ℕ) → length (replicate n x) ≡ n
many_in x zero = refl
many_in x (suc n) = ap suc (many_in x n)

pub none_at : (xs : List (Option Node)) (n m : ℕ) → xs ≡ replicate n None → slice_index_or xs m None ≡ None
none_at xs n m same = ap (λ (l : List (Option Node)). slice_index_or l m None) same ∙ one_in None n m

pub none_many : (xs : List (Option Node)) (n : ℕ) → xs ≡ replicate n None → length xs ≡ n
none_many xs n same = ap length same ∙ many_in None n

-- ---- where it was not opened

pub opens_err : (r : Result Service Stop) (why : Stop) (profile : NetProfile) (seed : ℕ) (a : Outside) (addressees reached : ℕ) (b : Outside) → IsErrAnd r (λ e. e ≡ why) → Hindered (status_of (end_of_stop why)) profile a b → b.clock ≡ a.clock → ServiceOpens r profile seed a addressees reached b
opens_err (Ok v) why profile seed a addressees reached b is hindered clock = absurd is
opens_err (Err e) why profile seed a addressees reached b is hindered clock = subst (λ (w : Stop). ServiceOpens (Err w) profile seed a addressees reached b) (sym is) (hindered, clock)

pub open_hindered : (why : Stop) (profile : NetProfile) (a b : Outside) (addressees : ℕ) → OpensLink (Err why) profile addressees a.link b.link → Puts a.output.written b.output.written (lines_text (head_lines profile)) → b.output.writes ≡ a.output.writes → Hindered (status_of (end_of_stop why)) profile a b
open_hindered stop.Memory profile a b addressees opens put writes =
    let lines = lines_text (head_lines profile) in
    ((length lines, omega arith, subst (λ l. Puts a.output.written b.output.written l) (sym (take_all (length lines) lines (omega arith))) put), writes, inr (opens.0, opens.1))
open_hindered stop.Link profile a b addressees opens put writes = (put, writes, opens.0, opens.1)
open_hindered stop.Write profile a b addressees opens put writes = absurd opens
open_hindered stop.Flash profile a b addressees opens put writes = absurd opens
open_hindered stop.NotAVolume profile a b addressees opens put writes = absurd opens
open_hindered stop.NoImage profile a b addressees opens put writes = absurd opens

-- nothing was written
pub nothing_put : (o : Option (List ℕ)) (xs : List ℕ) → PutsPrefix o o xs
nothing_put o xs = (0, omega arith, puts_none o o refl)

-- the head of the trace is what is written
pub head_is : (x t old head : List ℕ) → x ≡ t → t ≡ old ++ head → old ≡ [] → x ≡ head
head_is x t old head same is none = same ∙ is ∙ ap (λ l. l ++ head) none
