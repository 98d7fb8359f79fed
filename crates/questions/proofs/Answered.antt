-- A call that gives one number, at its returns. Assumes nothing.
use mathlib.Core.Path.{◌≡◌, ap}
use Rattle.questions.specs.Answer.{Answer, number, place, value, Answered}

pub answered : {due r : Answer} → r ≡ due → Answered due r
answered e = record { answer = e; number = ap number e; place = ap place e; value = ap value e }
