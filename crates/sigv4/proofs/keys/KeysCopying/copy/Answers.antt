use Rattle.sigv4.proofs.keys.KeysCopying.copy.Goals as goal

pub invariant_of-result : goal.invariant_of-result
invariant_of-result c =
    rw c.in_ok-copy.ensures (c.self.invariant.0, c.in_ok-copy-2.ensures c.self.inside.entries c.self.invariant.1)
