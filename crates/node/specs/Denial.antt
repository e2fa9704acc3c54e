-- What a node refuses: each refusal's number, and the values told with it. Assumes nothing.
--     be4 n             the four bytes of n, high byte first
--     number_of d       the number of the refusal d
--     values_of d       the bytes that follow the number in an answer
use Rattle.std.specs.Prelude.{ℕ, ◌/◌, ◌%◌, List, [], ◌∷◌}
use Rattle.node.specs.declared.denial.Denial.{Denial}
use Rattle.node.specs.declared.denial.Denial.TheVariants.{ShortReport, OutOfRange, Absent, AlreadyOpen, NoSuchGrant}
use Rattle.node.specs.declared.denial.Denial.TheVariants.{NotOwner, SameEnds, AboveLimit, InUse, Overused}
use Rattle.node.specs.declared.denial.Denial.TheVariants.{TooManyGrants, Exhausted, LevelTooLow, StoreRefused}

abbrev pub be4 : ℕ → List ℕ
be4 n = (n / 16777216 % 256) ∷ (n / 65536 % 256) ∷ (n / 256 % 256) ∷ (n % 256) ∷ []

abbrev pub number_of : Denial → ℕ
number_of ShortReport = 1
number_of OutOfRange = 5
number_of Absent = 6
number_of AlreadyOpen = 7
number_of NoSuchGrant = 8
number_of NotOwner = 9
number_of SameEnds = 10
number_of AboveLimit = 11
number_of InUse = 12
number_of Overused = 13
number_of TooManyGrants = 14
number_of Exhausted = 15
number_of (LevelTooLow task reserve deficit) = 16
number_of (StoreRefused o) = 17

abbrev pub values_of : Denial → List ℕ
values_of ShortReport = []
values_of OutOfRange = []
values_of Absent = []
values_of AlreadyOpen = []
values_of NoSuchGrant = []
values_of NotOwner = []
values_of SameEnds = []
values_of AboveLimit = []
values_of InUse = []
values_of Overused = []
values_of TooManyGrants = []
values_of Exhausted = []
values_of (LevelTooLow task reserve deficit) = task ∷ reserve ∷ be4 deficit
values_of (StoreRefused o) = o.task ∷ o.reserve ∷ o.fault.height ∷ o.fault.kind ∷ be4 o.fault.deficit
