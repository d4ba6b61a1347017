use mathlib.Core.Path.{◌≡◌}
use Rattle.theory.specs.Logic.Range.{first}
use Rattle.large_images.specs.Images.{owner_strays}
use Rattle.large_images.proofs.Merge.first_owner.Given as goal

abbrev pub invariant-loop-v : goal.invariant-loop-v
invariant-loop-v l = let p = owner_strays l.self.game.now l.self.reduced.now l.self.classes.now l.self.certificate.now l.self.n l.self.k l.self.q in
    first p 0 l.self.n ≡ first p l.v l.self.n
