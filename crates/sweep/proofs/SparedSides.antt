-- No other container changes while one beside a bucket is swept, over every observable store and whatever comes of the calls.
use Rattle.std.specs.Prelude.{◌≡◌, ◌⊎◌, ℕ, Bool, true, false, bytes_eq, List, None, Some}
use Rattle.std.proofs.Common.{refl, sym, subst, ◌∙◌, inl, inr, true≢false, ap}
use Rattle.swift_calls.specs.History.{History, present}
use Rattle.upload_records.specs.Layout.{segments_name}
use Rattle.account_calls.specs.Calls.{GoesOn}
use Rattle.account_calls.specs.Told.{LeavesThroughout}
use Rattle.account_calls.proofs.lemmas.Left.{throughout_end}
use Rattle.leftovers.specs.Segments.{Heeds, HeedsThen}
use Rattle.leftovers.specs.Sweeping.{Spares, SparesThen}
use Rattle.leftovers.specs.declared.sides.Kind.{Kind}
use Rattle.leftovers.specs.declared.sides.Kind.TheVariants.{Records, Segments}
use Rattle.leftovers.specs.Sides.{folder_beside, side_by, side_of}
use Rattle.leftovers.proofs.lemmas.Consistency.{none_found}
use Rattle.s3_names.specs.Bucket.{is_bucket}
use Rattle.std.proofs.lemmas.Slice.Eq.{bytes_eq-Decides}
use Rattle.sweep.specs.Containers.{SparesOthers}
use Rattle.sweep.proofs.SideNames.{segments_have_side, uploads_have_side}

pub nothing_changed : (folder : List ℕ) {a b : History} → GoesOn a b → LeavesThroughout a b → SparesThen folder (λ n. true) a b
nothing_changed folder {a = a} on leaves = record {
  so = λ observable. subst (Spares folder (λ n. true) (present a)) (sym (throughout_end on leaves observable)) (record { others = λ name apart. refl; stays = λ name not. absurd (true≢false not) });
}

pub others_stay : (bucket : List ℕ) {a b : History} → HeedsThen bucket a b → SparesThen (segments_name bucket) (λ n. true) a b
others_stay bucket {a = a} {b = b} heeds = record { so = λ observable. by (heeds observable) }
  where
    by : (present b ≡ present a) ⊎ Heeds bucket (present a) (present b) → Spares (segments_name bucket) (λ n. true) (present a) (present b)
    by (inl same) = subst (Spares (segments_name bucket) (λ n. true) (present a)) (sym same) (record { others = λ name apart. refl; stays = λ name not. absurd (true≢false not) })
    by (inr heeded) = record { others = heeded.spares.others; stays = λ name not. absurd (true≢false not) }

pub then_others : {folder : List ℕ} {a b c : History} → GoesOn a b → SparesThen folder (λ n. true) a b → SparesThen folder (λ n. true) b c → SparesThen folder (λ n. true) a c
then_others on first then = record {
  so = λ observable.
      let one = first.so observable in
      let two = then.so (on.observable observable) in
      record { others = λ name apart. two.others name apart ∙ one.others name apart; stays = λ name not. absurd (true≢false not) };
}

-- ---- and no container that doesn't stand beside a bucket

side_has : (kind : Kind) (bucket : List ℕ) → is_bucket bucket ≡ true → side_of (folder_beside kind bucket) ≡ Some (side_by kind bucket)
side_has Records bucket is = uploads_have_side bucket is
side_has Segments bucket is = segments_have_side bucket is

off_side : (kind : Kind) (bucket : List ℕ) → is_bucket bucket ≡ true → (name : List ℕ) → side_of name ≡ None → bytes_eq name (folder_beside kind bucket) ≡ false
off_side kind bucket is name none = by (bytes_eq name (folder_beside kind bucket)) refl
  where
    by : (t : Bool) → bytes_eq name (folder_beside kind bucket) ≡ t → bytes_eq name (folder_beside kind bucket) ≡ false
    by true e = absurd (none_found (side_by kind bucket) (sym none ∙ ap side_of ((bytes_eq-Decides name (folder_beside kind bucket)).0 e) ∙ side_has kind bucket is))
    by false e = e

pub others_spared : (kind : Kind) (bucket : List ℕ) {a b : History} → is_bucket bucket ≡ true → SparesThen (folder_beside kind bucket) (λ n. true) a b → SparesOthers a b
others_spared kind bucket is spares = record { so = λ observable name none. (spares.so observable).others name (off_side kind bucket is name none) }

pub others_same : (h : History) → SparesOthers h h
others_same h = record { so = λ observable name none. refl }

pub others_then : {a b c : History} → GoesOn a b → SparesOthers a b → SparesOthers b c → SparesOthers a c
others_then on first then = record { so = λ observable name none. then.so (on.observable observable) name none ∙ first.so observable name none }
