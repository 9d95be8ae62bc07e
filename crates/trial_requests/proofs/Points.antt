-- Where a trial stands.
use Rattle.std.proofs.Common.{◌≡◌, ◌∙◌, ℕ, suc, ◌+◌, List, ap, arith}
use Rattle.std.specs.Prelude.{Option, None, []}
use Rattle.rand_core.specs.Pcg32Seed.{pcg32_seed}
use Rattle.rand_pcg.specs.Lcg.{Lcg}
use Rattle.rand_pcg.specs.Pcg.{pcg32_of_seed}
use Rattle.trial_requests.specs.declared.asked.BegunUpload.{BegunUpload}
use Rattle.trial_requests.specs.Trial.{TrialPoint, next_point, point_of, trial_point, trial_text}

pub point_start : (number : ℕ) (source : Lcg) (text : List ℕ) → source ≡ pcg32_of_seed (pcg32_seed 16 number) → text ≡ [] → point_of source None text ≡ trial_point number 0
unfolding trial_point
point_start number source text is empty = λ i. point_of (is i) None (empty i)

pub point_more : (number index : ℕ) (old new : TrialPoint) → old ≡ trial_point number index → new ≡ next_point index old → new ≡ trial_point number (index + 1)
unfolding trial_point
point_more number index old new stands goes =
    let more : suc index ≡ index + 1 = omega arith in
    goes ∙ ap (next_point index) stands ∙ ap (trial_point number) more

pub point_end : (number index requests : ℕ) (source : Lcg) (latest : Option BegunUpload) (text : List ℕ) → point_of source latest text ≡ trial_point number index → index ≡ requests → text ≡ trial_text number requests
point_end number index requests source latest text stands all = ap (λ (p : TrialPoint). p.text) (stands ∙ ap (trial_point number) all)
