-- For the code's contracts: the checker's answer as the numbers that C gets. Assumes nothing.
use Rattle.questions.specs.Answer.{number, place}
use Rattle.store_listings.specs.Listings.{ListingAnswer, line}
use Rattle.checker_entries.specs.declared.ListingTold.{ListingTold}

abbrev pub listing_told_of : ListingAnswer → ListingTold
listing_told_of a = record { number = number a; place = place a; line = line a }
