-- How a run ended, by its exit status, and by what was asked for.
use Rattle.std.proofs.Common.{◌≡◌, ◌≢◌, ◌⊎◌, ◌==◌, ◌≤◌, ◌||◌, if◌then◌else◌, ℕ, Bool, true, false, List, None, Some, is_some, ◌∙◌, refl, sym, ap, subst, inl, inr, arith}
use Rattle.gate_base.specs.Line.{LineModel}
use Rattle.gateway_cmd.specs.Facts.{Finish, unfinished, served_out, telling, facts_of, told_by, is_served_out, Fits, ends_by_store, is_serving, is_signing, tells, uses_line}
use Rattle.gateway_cmd.specs.declared.status.RunOutcome.{RunOutcome}
use Rattle.gateway_cmd.specs.declared.status.RunOutcome.TheVariants.{Told, Inconsistent, Plain}
use Rattle.gateway_cmd.specs.declared.status.Status.{Status}
use Rattle.gateway_cmd.specs.declared.status.Status.TheVariants.{Done, Usage, Line, Store, Request, Memory}
use Rattle.gateway_cmd.specs.Report.{IsStatus, Says, Admits, kind_of, code_of, is_plain, is_failed_run, is_done, is_done_status}
use Rattle.gateway_cmd.specs.Session.{LineServed}
use Rattle.gateway_cmd.specs.Tasks.{Task, Serving}

-- the exit status of a run that ended so; 6 is that of one whose report failed
abbrev pub Exits : RunOutcome → ℕ → Type 0
Exits (Told told) status = (status ≡ 0) ⊎ ((status ≡ 5) ⊎ (status ≡ 6))
Exits (Inconsistent container name) status = (status ≡ 7) ⊎ (status ≡ 5)
Exits (Plain ended) status = status ≡ code_of ended

pub says_exits : (ended : RunOutcome) (n : ℕ) (text : List ℕ) → Says ended n text → Exits ended n
says_exits (Told told) n text (inl (inl zero, is)) = inl zero
says_exits (Told told) n text (inl (inr six, is)) = inr (inr six)
says_exits (Told told) n text (inr (five, is)) = inr (inl five)
says_exits (Inconsistent container name) n text (inl (seven, is)) = inl seven
says_exits (Inconsistent container name) n text (inr (five, is)) = inr five
says_exits (Plain status) n text (code, is) = code

pub exits_status : (ended : RunOutcome) (n : ℕ) → Exits ended n → IsStatus n
exits_status (Told told) n (inl zero) = inl zero
exits_status (Told told) n (inr (inl five)) = inr (inr (inr (inl five)))
exits_status (Told told) n (inr (inr six)) = inr (inr (inr (inr (inl six))))
exits_status (Inconsistent container name) n (inl seven) = inr (inr (inr (inr (inr (inr (inr seven))))))
exits_status (Inconsistent container name) n (inr five) = inr (inr (inr (inl five)))
exits_status (Plain Done) n e = inl e
exits_status (Plain Usage) n e = inr (inl e)
exits_status (Plain Line) n e = inr (inr (inl e))
exits_status (Plain Memory) n e = inr (inr (inr (inl e)))
exits_status (Plain Store) n e = inr (inr (inr (inr (inr (inr (inl e))))))
exits_status (Plain Request) n e = inr (inr (inr (inr (inr (inl e)))))

-- a run with something to tell hasn't the status of refused words, and one that names an object neither this nor 0
exits_told : (n : ℕ) → (n ≡ 0) ⊎ ((n ≡ 5) ⊎ (n ≡ 6)) → n ≡ 2 → ⊥
exits_told n (inl zero) two = omega arith
exits_told n (inr (inl five)) two = omega arith
exits_told n (inr (inr six)) two = omega arith

exits_named : (n : ℕ) → (n ≡ 7) ⊎ (n ≡ 5) → n ≤ 2 → ⊥
exits_named n (inl seven) few = omega arith
exits_named n (inr five) few = omega arith

pub exits_usage : (ended : RunOutcome) (n : ℕ) → Exits ended n → n ≡ 2 → ended ≡ Plain Usage
exits_usage (Told told) n x e = absurd (exits_told n x e)
exits_usage (Inconsistent container name) n x e = absurd (exits_named n x (omega arith))
exits_usage (Plain Done) n x e = absurd (omega arith)
exits_usage (Plain Usage) n x e = refl
exits_usage (Plain Line) n x e = absurd (omega arith)
exits_usage (Plain Store) n x e = absurd (omega arith)
exits_usage (Plain Memory) n x e = absurd (omega arith)
exits_usage (Plain Request) n x e = absurd (omega arith)

-- what a status asks of the task
abbrev pub asked_by : Task → ℕ → Bool
asked_by task n = if n == 3 then uses_line task else (if n == 4 || n == 7 then ends_by_store task else (if n == 8 then is_signing task else true))

pub exits_asked : (task : Task) (ended : RunOutcome) (n : ℕ) → Exits ended n → Fits task ended → asked_by task n ≡ true
exits_asked task (Told told) n (inl zero) fits = ap (asked_by task) zero
exits_asked task (Told told) n (inr (inl five)) fits = ap (asked_by task) five
exits_asked task (Told told) n (inr (inr six)) fits = ap (asked_by task) six
exits_asked task (Inconsistent container name) n (inl seven) fits = ap (asked_by task) seven ∙ fits
exits_asked task (Inconsistent container name) n (inr five) fits = ap (asked_by task) five
exits_asked task (Plain Done) n e fits = ap (asked_by task) e
exits_asked task (Plain Usage) n e fits = ap (asked_by task) e
exits_asked task (Plain Line) n e fits = ap (asked_by task) e ∙ fits
exits_asked task (Plain Store) n e fits = ap (asked_by task) e ∙ fits
exits_asked task (Plain Memory) n e fits = ap (asked_by task) e
exits_asked task (Plain Request) n e fits = ap (asked_by task) e ∙ fits

-- by the status 0 all was done: what was to be told was, and else nothing was to be
done_plain : (status : Status) (n : ℕ) → n ≡ code_of status → n ≡ 0 → status ≡ Done
done_plain Done n x e = refl
done_plain Usage n x e = absurd (omega arith)
done_plain Line n x e = absurd (omega arith)
done_plain Store n x e = absurd (omega arith)
done_plain Memory n x e = absurd (omega arith)
done_plain Request n x e = absurd (omega arith)

-- where connections are served there is nothing to tell
serving_tells : (finish : Finish) → is_served_out finish ≡ true → told_by finish ≡ None
serving_tells unfinished is = refl
serving_tells served_out is = refl
serving_tells (telling kind) is = absurd (let no : false ≡ true = is in cc)

pub serving_plain : (task : Task) (ended : RunOutcome) → is_serving task ≡ true → Fits task ended → is_plain ended ≡ true
serving_plain task (Told told) serving fits = absurd (let no : None ≡ Some (kind_of told) = sym (serving_tells (facts_of task).finish serving) ∙ fits in cc)
serving_plain task (Inconsistent container name) serving fits = refl
serving_plain task (Plain status) serving fits = refl

pub exits_done : (task : Task) (ended : RunOutcome) (n : ℕ) → Exits ended n → n ≡ 0 → is_serving task ≡ true → Fits task ended → ended ≡ Plain Done
exits_done task (Told told) n x e serving fits = absurd (let no : false ≡ true = serving_plain task (Told told) serving fits in cc)
exits_done task (Inconsistent container name) n x e serving fits = absurd (exits_named n x (omega arith))
exits_done task (Plain status) n x e serving fits = ap Plain (done_plain status n x e)

-- where there is something to tell, it was told
pub exits_told_of : (task : Task) (ended : RunOutcome) (n : ℕ) → Exits ended n → n ≡ 0 → is_some (tells task) ≡ true → Fits task ended → is_plain ended ≡ false
exits_told_of task (Told told) n x e some fits = refl
exits_told_of task (Inconsistent container name) n x e some fits = absurd (exits_named n x (omega arith))
exits_told_of task (Plain status) n x e some fits =
    let done : status ≡ Done = done_plain status n x e in
    let serving : is_serving task ≡ true = subst (λ s. Fits task (Plain s)) done fits in
    absurd (let no : true ≡ false = sym some ∙ ap is_some (serving_tells (facts_of task).finish serving) in cc)

pub told_of : (task : Task) (ended : RunOutcome) → is_plain ended ≡ false → Fits task ended → is_some (tells task) ≡ true
told_of task (Told told) plain fits = ap is_some fits
told_of task (Inconsistent container name) plain fits = absurd (let no : true ≡ false = plain in cc)
told_of task (Plain status) plain fits = absurd (let no : true ≡ false = plain in cc)

-- an end whose status the run hasn't is not its end
pub exits_other : (ended : RunOutcome) (status : Status) (n : ℕ) → Exits ended n → (n ≡ code_of status → ⊥) → ended ≢ Plain status
exits_other ended status n x other = λ e. other (subst (λ how. Exits how n) e x)

-- otherwise than refused, or because memory ran out, ends only a run that can be done
admitted_by : (possible : Bool) (ended : RunOutcome) → ended ≢ Plain Memory → ended ≢ Plain Usage → Admits possible ended → possible ≡ true
admitted_by true ended memory usage admits = refl
admitted_by false ended memory usage admits = absurd (usage (admits.refused refl memory))

pub admitted : (possible : Bool) (ended : RunOutcome) (n : ℕ) → Exits ended n → (n ≡ 5 → ⊥) → (n ≡ 2 → ⊥) → Admits possible ended → possible ≡ true
admitted possible ended n x memory usage admits = admitted_by possible ended (exits_other ended Memory n x memory) (exits_other ended Usage n x usage) admits

-- whether the line failed, by the status
pub exits_failed_run : (ended : RunOutcome) (n : ℕ) → Exits ended n → is_failed_run ended ≡ (n == 3)
exits_failed_run (Told told) n (inl zero) = sym (ap (λ k. k == 3) zero)
exits_failed_run (Told told) n (inr (inl five)) = sym (ap (λ k. k == 3) five)
exits_failed_run (Told told) n (inr (inr six)) = sym (ap (λ k. k == 3) six)
exits_failed_run (Inconsistent container name) n (inl seven) = sym (ap (λ k. k == 3) seven)
exits_failed_run (Inconsistent container name) n (inr five) = sym (ap (λ k. k == 3) five)
exits_failed_run (Plain Done) n e = sym (ap (λ k. k == 3) e)
exits_failed_run (Plain Usage) n e = sym (ap (λ k. k == 3) e)
exits_failed_run (Plain Line) n e = sym (ap (λ k. k == 3) e)
exits_failed_run (Plain Store) n e = sym (ap (λ k. k == 3) e)
exits_failed_run (Plain Memory) n e = sym (ap (λ k. k == 3) e)
exits_failed_run (Plain Request) n e = sym (ap (λ k. k == 3) e)

-- and whether all was done, where there is nothing to tell
done_status : (status : Status) (n : ℕ) → n ≡ code_of status → is_done_status status ≡ (n == 0)
done_status Done n e = sym (ap (λ k. k == 0) e)
done_status Usage n e = sym (ap (λ k. k == 0) e)
done_status Line n e = sym (ap (λ k. k == 0) e)
done_status Store n e = sym (ap (λ k. k == 0) e)
done_status Memory n e = sym (ap (λ k. k == 0) e)
done_status Request n e = sym (ap (λ k. k == 0) e)

exits_is_done : (ended : RunOutcome) (n : ℕ) → is_plain ended ≡ true → Exits ended n → is_done ended ≡ (n == 0)
exits_is_done (Told told) n plain x = absurd (let no : false ≡ true = plain in cc)
exits_is_done (Inconsistent container name) n plain (inl seven) = sym (ap (λ k. k == 0) seven)
exits_is_done (Inconsistent container name) n plain (inr five) = sym (ap (λ k. k == 0) five)
exits_is_done (Plain status) n plain e = done_status status n e

-- so it is said of the line of a run that serves
pub serving_line : {serving : Serving} {old new : LineModel} (ended : RunOutcome) (n : ℕ) → is_plain ended ≡ true → Exits ended n → LineServed serving (is_failed_run ended) (is_done ended) old new → LineServed serving (n == 3) (n == 0) old new
serving_line {serving = serving} {old = old} {new = new} ended n plain x line =
    subst (λ failed. LineServed serving failed (n == 0) old new) (exits_failed_run ended n x) (subst (λ done. LineServed serving (is_failed_run ended) done old new) (exits_is_done ended n plain x) line)
