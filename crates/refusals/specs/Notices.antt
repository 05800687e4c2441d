-- The number, layer and place of each refusal, and how they are shown.
use Rattle.std.specs.Prelude.{ℕ, List, ◌++◌, codes, decimal}
use Rattle.refusals.specs.declared.Notice.{Notice}
use Rattle.refusals.specs.declared.Refusal.{Refusal}
use Rattle.refusals.specs.declared.Refusal.TheVariants.{CardLength, UnknownName, RepeatedName, NotANumber, OutOfRange, StorageFigure, JoinedContents, PlotFigure, TooManySegments, OpeningAboveCeiling, RecordLength, UnknownLetter, NotZero, NoSuchSegment, RainAboveLimit, DemandAboveLimit, StorageFull, BasinFull, BookFull, DrawAmount, EmptyParcel, ShortBuffer}

abbrev pub notice_of : Refusal → Notice
notice_of CardLength = record { number = 1; layer = 2; place = 0 }
notice_of (UnknownName at) = record { number = 2; layer = 2; place = at }
notice_of (RepeatedName at) = record { number = 3; layer = 2; place = at }
notice_of (NotANumber at) = record { number = 4; layer = 2; place = at }
notice_of (OutOfRange at) = record { number = 5; layer = 2; place = at }
notice_of StorageFigure = record { number = 6; layer = 3; place = 0 }
notice_of JoinedContents = record { number = 7; layer = 3; place = 0 }
notice_of PlotFigure = record { number = 8; layer = 4; place = 0 }
notice_of TooManySegments = record { number = 9; layer = 4; place = 0 }
notice_of OpeningAboveCeiling = record { number = 10; layer = 5; place = 0 }
notice_of RecordLength = record { number = 11; layer = 1; place = 0 }
notice_of UnknownLetter = record { number = 12; layer = 1; place = 0 }
notice_of (NotZero at) = record { number = 13; layer = 1; place = at }
notice_of (NoSuchSegment k) = record { number = 14; layer = 4; place = k }
notice_of (RainAboveLimit k) = record { number = 15; layer = 5; place = k }
notice_of (DemandAboveLimit k) = record { number = 16; layer = 5; place = k }
notice_of (StorageFull k) = record { number = 17; layer = 3; place = k }
notice_of (BasinFull k) = record { number = 18; layer = 5; place = k }
notice_of (BookFull k) = record { number = 19; layer = 5; place = k }
notice_of DrawAmount = record { number = 20; layer = 3; place = 0 }
notice_of EmptyParcel = record { number = 21; layer = 5; place = 0 }
notice_of ShortBuffer = record { number = 22; layer = 5; place = 0 }

abbrev pub shown : Notice → List ℕ
shown n = codes "rule " ++ (decimal n.number ++ (codes ", found in layer " ++ (decimal n.layer ++ (codes ", at " ++ decimal n.place))))
