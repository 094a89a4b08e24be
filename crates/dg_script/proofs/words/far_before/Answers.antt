use Rattle.std.proofs.Common.{◌≢◌, ℕ, ◌<◌, List, length, get_or, arith}
use Rattle.std.proofs.lemmas.Bool.{eq-eqb}
use Rattle.memchr.specs.Find.{Nowhere, Passes, is_byte}
use Rattle.dg_script.proofs.words.far_before.Goals as goal

none_to : (text : List ℕ) (stop n : ℕ) → Nowhere (Passes (is_byte stop) text) 0 n → (k : ℕ) → k < n → get_or text k 0 ≢ stop
none_to text stop n far k below = λ is. far k (omega arith) below (eq-eqb _ _ is)

pub returns-in-Some-clause-word : goal.returns-in-Some-clause-word
returns-in-Some-clause-word c = none_to c.args.text.now c.args.stop c.in-Some.at c.in-Some.ensures.0.before

pub returns-in-None-clause-word : goal.returns-in-None-clause-word
returns-in-None-clause-word c = none_to c.args.text.now c.args.stop (length c.args.text.now) c.in-None.ensures
