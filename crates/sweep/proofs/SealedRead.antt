-- The GET of what is sealed.
use Rattle.std.specs.Prelude.{◌≡◌, ◌⊎◌, ℕ, List, Option, None, Some, Ok}
use Rattle.std.proofs.Common.{refl, sym, ap, subst, ◌∙◌, inl, inr}
use Rattle.swift_calls.specs.Account.{SwiftAccount}
use Rattle.swift_calls.specs.Step.{swift_step}
use Rattle.swift_calls.specs.declared.calls.SwiftReply.{SwiftReply}
use Rattle.swift_calls.specs.declared.calls.SwiftRequest.TheVariants.{GetObject}
use Rattle.upload_texts.specs.declared.sealed.Sealed.{Sealed}
use Rattle.upload_records.specs.Layout.{gateway_name, sealed_name}
use Rattle.upload_records.proofs.lemmas.Rolling.{TellsNone, TellsSeal, sealed_told}
use Rattle.account_calls.specs.Calls.{Any}
use Rattle.account_calls.specs.Interpret.{known}
use Rattle.account_calls.proofs.lemmas.One.{IsReadingOf}
use Rattle.account_calls.specs.Sealed.{sealed_by, sealed_due}
use Rattle.sweep.specs.Surveying.{TellsSealed}

module _ (tree : SwiftAccount) (reply : SwiftReply) (replied : reply ≡ (swift_step (GetObject gateway_name sealed_name None) tree).reply) where
  told_by : TellsNone tree ⊎ ((s : Sealed) × TellsSeal tree s) → (told : Option Sealed) × (sealed_due reply ≡ Ok told) × TellsSealed tree told
  told_by (inl none) = (None, ap sealed_due (replied ∙ none.reply), sym none.none)
  told_by (inr (s, seal)) = (Some s, ap sealed_due (replied ∙ seal.reply) ∙ ap (λ t. sealed_by t seal.text) seal.own ∙ ap known seal.reads, sym seal.seals)

sealed_got : IsReadingOf Any (GetObject gateway_name sealed_name None) sealed_due TellsSealed
sealed_got = record { leaves = λ tree. refl; tells = λ tree sound any reply replied. told_by tree reply replied (sealed_told tree sound) }

pub sealed_reads : {folder name : List ℕ} → folder ≡ gateway_name → name ≡ sealed_name → IsReadingOf Any (GetObject folder name None) sealed_due TellsSealed
sealed_reads foldered named = subst {A = List ℕ × List ℕ} (λ n. IsReadingOf Any (GetObject n.0 n.1 None) sealed_due TellsSealed) (λ i. (sym foldered i, sym named i)) sealed_got
