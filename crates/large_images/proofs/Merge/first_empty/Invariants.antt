use mathlib.Core.Path.{◌≡◌}
use Rattle.theory.specs.Logic.Range.{first}
use Rattle.large_images.specs.Images.{member_strays}
use Rattle.large_images.proofs.Merge.first_empty.Given as goal

abbrev pub invariant-loop-d : goal.invariant-loop-d
invariant-loop-d l = let p = member_strays l.self.classes.now l.self.certificate.now l.self.n in
    first p 0 l.self.k ≡ first p l.d l.self.k
