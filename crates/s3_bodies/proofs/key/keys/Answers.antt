use Rattle.std.proofs.Common.{get_or, subst, sym, take, ◌+◌}
use Rattle.s3_bodies.specs.DeleteReaders.{IsNamed, texts_of}
use Rattle.s3_bodies.specs.KeyText.{NameKeys}
use Rattle.s3_bodies.proofs.Keys.{named_at, no_keys_at, no_text}
use Rattle.s3_bodies.proofs.key.keys.Goals as goal

pub returns-in-None : goal.returns-in-None
returns-in-None c =
    no_keys_at c.args.texts.now c.texts.text-index no_text c.texts-test.true
    (subst (λ k. IsNamed (get_or c.args.texts.now c.texts.text-index no_text).now k) c.in-None.is c.in_ok-key.ensures)

pub texts-preserved : goal.texts-preserved
texts-preserved c =
    subst (λ k. NameKeys (texts_of (take (c.texts.text-index + 1) c.args.texts.now)) k) (sym c.in_ok-push-in-Some.ensures.ok)
    (named_at c.args.texts.now c.texts.keys c.texts.text-index no_text c.in-Some.key c.texts-test.true c.texts.invariant
    (subst (λ k. IsNamed (get_or c.args.texts.now c.texts.text-index no_text).now k) c.in-Some.is c.in_ok-key.ensures))
