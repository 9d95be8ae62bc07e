-- Over every observable store GET gives bytes only of an object that has the ETag and the size that HEAD told.
use Rattle.std.specs.Prelude.{◌≡◌, ◌==◌, ◌&&◌, ℕ, Bool, true, false, cond, bytes_eq, List, Option, None, Some, IfSome, Result, Ok, Err, IfOk}
use Rattle.std.specs.Option.{option_map}
use Rattle.std.proofs.Common.{refl, sym, ap, subst, ◌∙◌, inl, inr, true≢false}
use Rattle.std.proofs.lemmas.Bool.{and_parts, eqb-true}
use Rattle.std.proofs.lemmas.Slice.Eq.{bytes_eq-Decides}
use Rattle.swift_calls.specs.Account.{SwiftObject, SwiftAccount, find_object}
use Rattle.swift_calls.specs.Bodies.{bytes_of, head_of, ranged}
use Rattle.swift_calls.specs.History.{History, present, Calls}
use Rattle.swift_calls.specs.Step.{swift_step, get_reply, body_reply, part_reply}
use Rattle.swift_calls.specs.declared.calls.SwiftReply.{SwiftReply}
use Rattle.swift_calls.specs.declared.calls.SwiftRequest.TheVariants.{GetObject}
use Rattle.swift_marks.specs.declared.tag.Tag.{Tag}
use Rattle.swift_marks.specs.Tag.{read_tag}
use Rattle.account_calls.specs.declared.fault.PlanFault.{PlanFault}
use Rattle.account_calls.specs.declared.fault.PlanFault.TheVariants.{Inconsistent}
use Rattle.account_calls.specs.Calls.{IsStoredAs, GivesUnchanged}
use Rattle.account_calls.specs.Interpret.{Gives, object_head_agrees_with_tag, unchanged_by, is_unchanged, bytes_due}
use Rattle.account_calls.proofs.lemmas.One.{found}

module _ (tree : SwiftAccount) (bucket key etag : List ℕ) (size : ℕ) where
  abbrev GivesOf : Result (Option (List ℕ)) PlanFault → Type 0
  GivesOf result = IfOk result (λ given. IfSome given (λ bytes. IsStoredAs tree bucket key etag size))

  module _ (file : SwiftObject) (at : find_object tree bucket key ≡ Some file) where
    by_tag : (o : Option Tag) → read_tag file.content_type ≡ o → unchanged_by etag size (head_of file) o ≡ true → IsStoredAs tree bucket key etag size
    by_tag None tagged e = absurd (true≢false (sym e))
    by_tag (Some tag) tagged e =
        let parts = and_parts (object_head_agrees_with_tag (head_of file) tag && bytes_eq tag.etag etag) ((head_of file).size == size) e in
        let inner = and_parts (object_head_agrees_with_tag (head_of file) tag) (bytes_eq tag.etag etag) parts.0 in
        record {
          head = head_of file;
          tag = tag;
          there = ap (option_map head_of) at;
          tagged = tagged;
          as_tagged = inner.0;
          has_etag = (bytes_eq-Decides tag.etag etag).0 inner.1;
          has_size = eqb-true (head_of file).size size parts.1;
        }

    by_test : (bytes : List ℕ) (t : Bool) → is_unchanged etag size (head_of file) ≡ t → GivesOf (cond t (Ok (Some bytes)) (Err Inconsistent))
    by_test bytes true e = by_tag (read_tag file.content_type) refl e
    by_test bytes false e = tt

    by_part : (part : Option (List ℕ)) → GivesOf (bytes_due etag size (part_reply (head_of file) part))
    by_part None = tt
    by_part (Some bytes) = by_test bytes (is_unchanged etag size (head_of file)) refl

    by_body : (range : Option (ℕ × ℕ)) (body : Option (List ℕ)) → GivesOf (bytes_due etag size (body_reply (head_of file) range body))
    by_body range None = tt
    by_body range (Some bytes) = by_part (ranged range bytes)

  by_object : (range : Option (ℕ × ℕ)) (o : Option SwiftObject) → find_object tree bucket key ≡ o → GivesOf (bytes_due etag size (get_reply (find_object tree) range o))
  by_object range None at = tt
  by_object range (Some file) at = by_body file at range (bytes_of (find_object tree) file.content)

-- it was answered
pub gives_unchanged : (etag : List ℕ) (size : ℕ) {old new : History} {bucket key : List ℕ} {range : Option (ℕ × ℕ)} {reply : SwiftReply} → Calls old new (GetObject bucket key range) (Ok reply)
    → (result : Result (Option (List ℕ)) PlanFault) → Gives result (bytes_due etag size reply) → GivesUnchanged old bucket key etag size result
gives_unchanged etag size {old = old} {bucket = bucket} {key = key} calls result (inl out_of_memory) observable =
    subst (GivesOf (present old) bucket key etag size) (sym out_of_memory) tt
gives_unchanged etag size {old = old} {bucket = bucket} {key = key} {range = range} calls result (inr is) observable =
    let replied = (calls.effect observable).reply ∙ ap (λ tree. (swift_step (GetObject bucket key range) tree).reply) (found calls observable) in
    subst (GivesOf (present old) bucket key etag size) (sym (is ∙ ap (bytes_due etag size) replied)) (by_object (present old) bucket key etag size range (find_object (present old) bucket key) refl)
