mod CallDepths
mod RunDepths
mod PlaceDepths
mod SeatDepths
mod HistoryDepths
