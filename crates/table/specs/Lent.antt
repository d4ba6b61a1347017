-- The content of a lent slice, in the promise of a function: before the call and after it.
use Rattle.std.specs.Borrow.{Bor}
use denote.Triple.Both.{Both}

abbrev pub old : {A X : Type 0} → Both (Bor A) X → A
old x = x.entry.now

abbrev pub new : {A X : Type 0} → Both X (Bor A) → A
new x = x.exit.now
