mod Known
mod Said
