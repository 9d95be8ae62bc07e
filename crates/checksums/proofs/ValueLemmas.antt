-- What a value that is compared was, and the kinds of names.
use Rattle.std.proofs.Common.{◌≡◌, ℕ, Bool, true, cond, List, [], ◌∷◌, length, bytes_eq, find, inl, inr, ◌↔◌, Some, Ok, Err, Result, refl, sym, ap, ◌∙◌, subst}
use Rattle.std.proofs.lemmas.Bool.{cases_Bool, cases_eq, eq-eqb, ne_eqb}
use Rattle.std.proofs.lemmas.Slice.Eq.{bytes_eq-Decides}
use Rattle.base64.specs.Engines.{standard}
use Rattle.base64.specs.GeneralPurpose.{IsBytes, IsStrict, decode_of, encode_of}
use Rattle.base64.specs.declared.decode.DecodeError.{DecodeError}
use Rattle.base64.proofs.EngineFacts.{decode_of_iff, decode_of_strict}
use Rattle.checksums.specs.declared.kinds.Kind.{Kind}
use Rattle.checksums.specs.declared.kinds.Kind.TheVariants.{Sha256, Sha1, Crc32, Crc32c, Crc64Nvme}
use Rattle.checksums.specs.declared.values.Comparison.TheVariants.{Same, Different, NotAChecksum}
use Rattle.checksums.specs.Kinds.{checksum_header, checksum_kind, checksum_size, checksum_of, IsChecksumText, compared_bytes, compared}
use Rattle.checksums.proofs.SizeLemmas.{checksum_sized}

-- ---- names

found : {A : Type 0} (p : A → Bool) (xs : List A) (x : A) → find p xs ≡ Some x → p x ≡ true
found p [] x h = cc h
found p (y ∷ xs) x h = elim (cases_Bool (p y)) [
  | inl hit ↦ let same : y ≡ x = cc (rw hit at h) in subst (λ z. p z ≡ true) same hit
  | inr miss ↦ found p xs x (rw miss at h)
]

pub named : (kind : Kind) (name : List ℕ) → checksum_kind name ≡ Some kind → name ≡ checksum_header kind
named kind name h =
    (bytes_eq-Decides name (checksum_header kind)).0
    (found (λ k. bytes_eq name (checksum_header k)) (Sha256 ∷ Sha1 ∷ Crc32 ∷ Crc32c ∷ Crc64Nvme ∷ []) kind h)

pub names : (kind : Kind) → checksum_kind (checksum_header kind) ≡ Some kind
names Sha256 = refl
names Sha1 = refl
names Crc32 = refl
names Crc32c = refl
names Crc64Nvme = refl

-- ---- values

compared_sized : (size : ℕ) (bytes due : List ℕ) → length bytes ≡ size → compared_bytes size due (Ok bytes) ≡ cond (bytes_eq bytes due) Same Different
compared_sized size bytes due h = ap (λ t. cond t (cond (bytes_eq bytes due) Same Different) NotAChecksum) (eq-eqb (length bytes) size h)

compared_unsized : (size : ℕ) (bytes due : List ℕ) → (length bytes ≡ size → ⊥) → compared_bytes size due (Ok bytes) ≡ NotAChecksum
compared_unsized size bytes due h = ap (λ t. cond t (cond (bytes_eq bytes due) Same Different) NotAChecksum) (ne_eqb (length bytes) size h)

same_bytes : (size : ℕ) (bytes due : List ℕ) → compared_bytes size due (Ok bytes) ≡ Same → bytes ≡ due
same_bytes size bytes due h = elim (cases_eq (length bytes) size) [
  | inl sized ↦ elim (cases_Bool (bytes_eq bytes due)) [
    | inl hit ↦ (bytes_eq-Decides bytes due).0 hit
    | inr miss ↦ let differ = ap (λ t. cond t Same Different) miss in cc (sym h, compared_sized size bytes due sized, differ)
  ]
  | inr unsized ↦ cc (sym h, compared_unsized size bytes due unsized)
]

same_from : (size : ℕ) (due : List ℕ) (read : Result (List ℕ) DecodeError) → compared_bytes size due read ≡ Same → read ≡ Ok due
same_from size due (Ok bytes) h = ap Ok (same_bytes size bytes due h)
same_from size due (Err fault) h = cc h

same_of : (size : ℕ) (due : List ℕ) → length due ≡ size → compared_bytes size due (Ok due) ≡ Same
same_of size due h = compared_sized size due due h ∙ ap (λ t. cond t Same Different) ((bytes_eq-Decides due due).1 refl)

strict : IsStrict standard
strict = (refl, refl)

pub taken : (kind : Kind) (value message : List ℕ) → IsBytes value → compared kind value message ≡ Same → value ≡ encode_of standard (checksum_of kind message)
unfolding compared
taken kind value message bytes h =
    decode_of_strict standard value (checksum_of kind message) strict bytes
    (same_from (checksum_size kind) (checksum_of kind message) (decode_of standard value) h)

pub is_taken : (kind : Kind) (value message : List ℕ) → IsBytes value → value ≡ encode_of standard (checksum_of kind message) → compared kind value message ≡ Same
unfolding compared
is_taken kind value message bytes h =
    let due = checksum_of kind message in
    let sized = checksum_sized kind message in
    ap (compared_bytes (checksum_size kind) due) ((decode_of_iff standard value due strict bytes sized.1).1 h)
    ∙ same_of (checksum_size kind) due sized.0

-- a value that is read is no checksum where it is that of bytes of another number
pub read_iff : (kind : Kind) (value due bytes : List ℕ) → IsBytes value → IsBytes bytes → decode_of standard value ≡ Ok bytes
    → (compared_bytes (checksum_size kind) due (Ok bytes) ≡ NotAChecksum) ↔ (IsChecksumText kind value → ⊥)
read_iff kind value due bytes is are ok = (
  λ h text.
      let read : decode_of standard value ≡ Ok text.0 = (decode_of_iff standard value text.0 strict is text.1).1 text.3 in
      let same : bytes ≡ text.0 = cc (sym ok, read) in
      let sized : length bytes ≡ checksum_size kind = ap length same ∙ text.2 in
      elim (cases_Bool (bytes_eq bytes due)) [
        | inl hit ↦ let equal = ap (λ t. cond t Same Different) hit in cc (sym h, compared_sized (checksum_size kind) bytes due sized, equal)
        | inr miss ↦ let differ = ap (λ t. cond t Same Different) miss in cc (sym h, compared_sized (checksum_size kind) bytes due sized, differ)
      ],
  λ none. elim (cases_eq (length bytes) (checksum_size kind)) [
    | inl sized ↦ absurd (none (bytes, are, sized, decode_of_strict standard value bytes strict is ok))
    | inr unsized ↦ compared_unsized (checksum_size kind) bytes due unsized
  ],
)

-- a value that can't be read is that of no bytes
pub unread : (kind : Kind) (value : List ℕ) (fault : DecodeError) → IsBytes value → decode_of standard value ≡ Err fault → IsChecksumText kind value → ⊥
unread kind value fault is failed text =
    let read : decode_of standard value ≡ Ok text.0 = (decode_of_iff standard value text.0 strict is text.1).1 text.3 in
    cc (sym failed, read)
