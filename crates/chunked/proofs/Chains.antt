-- Chains of readers: what one that succeeds went through, and where one fails.
use Rattle.std.proofs.Common.{◌≡◌, ◌⊎◌, inl, inr, Bool, true, false, cond, Result, Ok, Err, refl}
use Rattle.chunked.specs.declared.fault.ChunkedFault.{ChunkedFault}
use Rattle.chunked.specs.Reading.{◌>>=◌}

pub ok_same : {A : Type 0} (x y : A) → (let r : Result A ChunkedFault = Ok x in r) ≡ Ok y → x ≡ y
ok_same x y h = cc

pub bind_ok : {A B : Type 0} (read : Result A ChunkedFault) (next : A → Result B ChunkedFault) (y : B) → (read >>= next) ≡ Ok y → (x : A) × (read ≡ Ok x) × (next x ≡ Ok y)
bind_ok (Ok x) next y h = (x, refl, h)
bind_ok (Err e) next y h = cc

pub bind_err : {A B : Type 0} (read : Result A ChunkedFault) (next : A → Result B ChunkedFault) (e : ChunkedFault) → (read >>= next) ≡ Err e → (read ≡ Err e) ⊎ ((x : A) × (read ≡ Ok x) × (next x ≡ Err e))
bind_err (Ok x) next e h = inr (x, refl, h)
bind_err (Err d) next e h = let same : d ≡ e = cc in inl (cc)

-- which of two was taken
pub chosen : {X : Type 0} (b : Bool) (x y z : X) → cond b x y ≡ z → ((b ≡ true) × (x ≡ z)) ⊎ ((b ≡ false) × (y ≡ z))
chosen true x y z h = inl (refl, h)
chosen false x y z h = inr (refl, h)

-- behind a test that failed
pub guard_ok : {A : Type 0} (b : Bool) (e : ChunkedFault) (read : Result A ChunkedFault) (y : A) → cond b (Err e) read ≡ Ok y → (b ≡ false) × (read ≡ Ok y)
guard_ok true e read y h = cc
guard_ok false e read y h = (refl, h)
