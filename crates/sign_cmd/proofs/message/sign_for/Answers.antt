use Rattle.sign_cmd.proofs.SigningLemmas.{signing_headers_dated}
use Rattle.sign_cmd.proofs.message.sign_for.Goals as goal

pub sign-requires : goal.sign-requires
sign-requires c = rw (c.time_of.ensures, c.as_slice-headers.ensures) (signing_headers_dated c.args.message.now.headers c.requires)
